use Rattle.roman_order.proofs.Reading.{batch_rest}
use Rattle.roman_order.proofs.order.Order.batch_at.Goals as goal

pub returns-clause-entries : goal.returns-clause-entries
returns-clause-entries c = batch_rest _ _ _ _ _ _ _ c.batch_of-first.ensures c.without_lowest-lanes.ensures.rest
