use Rattle.roman_order.proofs.Common.{◌≡◌, ◌*◌, length, arith, length-replicate}
use Rattle.roman_order.proofs.Reading.{rows_within}
use Rattle.roman_order.proofs.order.Order.stamp_all.Goals as goal

pub write_stamps-requires-clause-rows : goal.write_stamps-requires-clause-rows
write_stamps-requires-clause-rows c =
    let a = c.self.inside in
    let long : a.rows * a.lanes ≡ length c.deref_mut.result.now = grind (arith, length-replicate) in
    (a.rows, long, rw c.deref.ensures.value (rows_within a.rows a.lanes a.batches.items c.self.invariant.placed.in_range c.self.invariant.counted.each))
