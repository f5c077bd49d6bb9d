use Rattle.roman_order.proofs.Common.{arith, add-one}
use Rattle.roman_order.proofs.Lanes.{entries_in_rows-row}
use Rattle.roman_order.proofs.order.Order.push_rows.Goals as goal

pub loop-i-preserved : goal.loop-i-preserved
loop-i-preserved c = grind (arith, (entries_in_rows-row c.args.self.now.lanes c.args.x c.loop-i.i c.args.lost.now c.args.reason c.args.self.now.list), (add-one c.loop-i.i))
