use Rattle.roman_order.proofs.Common.{arith, length-drop}
use Rattle.roman_order.proofs.Lanes.{no_lane}
use Rattle.roman_order.proofs.Reading.{drop_next}
use Rattle.roman_order.proofs.order.reading.without_lowest.Goals as goal

pub first_lane-requires : goal.first_lane-requires
first_lane-requires c = no_lane _ (grind (arith, length-drop))

pub loop-taken-preserved : goal.loop-taken-preserved
loop-taken-preserved c = grind (arith, drop_next)
