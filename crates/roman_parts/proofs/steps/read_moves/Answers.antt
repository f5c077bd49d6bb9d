-- The next step is appended, in range.
use Rattle.roman_parts.proofs.Common.{arith, common_steps}
use Rattle.roman_parts.proofs.StepLemmas.{step_lists}
use Rattle.roman_parts.proofs.steps.read_moves.Goals as goal

pub loop-i-preserved : goal.loop-i-preserved
loop-i-preserved c = record {
  count = grind (arith, common_steps);
  within = grind (arith, common_steps);
  guards = grind (arith, common_steps);
  left = grind (arith, step_lists);
}
