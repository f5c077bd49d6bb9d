use Rattle.roman_multi.proofs.Common.{arith}
use Rattle.roman_multi.proofs.FlatLemmas.{part_below}
use Rattle.roman_multi.proofs.TargetLemmas.{final_next}
use Rattle.roman_multi.proofs.target.are_final.Goals as goal

pub is_final-requires : goal.is_final-requires
is_final-requires c = part_below c.args.targets.now c.args.shape.now c.loop-i.i c.part_of-state.result c.index-targets-i.result c.requires.shape c.loop-i-test.true c.part_of-state.ensures.below

pub returns-then-not-is_final : goal.returns-then-not-is_final
returns-then-not-is_final c = grind (arith, (final_next c.args.targets.now c.args.shape.now c.args.t c.loop-i.i c.part_of-state.result c.index-targets-i.result c.is_final.result))

pub loop-i-preserved : goal.loop-i-preserved
loop-i-preserved c = grind (arith, (final_next c.args.targets.now c.args.shape.now c.args.t c.loop-i.i c.part_of-state.result c.index-targets-i.result c.is_final.result))
