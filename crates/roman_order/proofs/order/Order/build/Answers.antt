use Rattle.roman_order.proofs.Common.{rules}
use Rattle.roman_order.proofs.Batches.{CanWait-nil}
use Rattle.roman_order.proofs.Tables.{blank_sound}
use Rattle.roman_order.proofs.order.Order.build.Goals as goal

pub invariant_of-result : goal.invariant_of-result
invariant_of-result c = blank_sound _ (search rules) (rw c.in_ok-with_capacity-3.ensures.items (CanWait-nil 1)) (search rules) (search rules) (search rules) (search rules) (search rules)
