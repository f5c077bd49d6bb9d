use Rattle.roman_lanes.proofs.Common.{◌*◌, arith, take-add, take_rest, sum_by-append, sum_by-take-drop}
use Rattle.roman_lanes.proofs.cells.count_equal.Goals as goal

pub loop-block-preserved : goal.loop-block-preserved
loop-block-preserved c = grind (arith, (take-add (c.loop-block.block * 16) 16 c.args.values.now), sum_by-append)

pub returns : goal.returns
returns c = grind (arith, take_rest, sum_by-take-drop)
