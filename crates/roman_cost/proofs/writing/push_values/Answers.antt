use Rattle.roman_cost.proofs.Common.{refl, arith, err_from_is_err_and, fill_behind, fill_same, fill_more, fill_failed, fill_end}
use Rattle.roman_cost.proofs.Lines.{next_lines, no_lines}
use Rattle.roman_cost.proofs.writing.push_values.Goals as goal

pub loop-h-init : goal.loop-h-init
loop-h-init g c = record { filling = λ s C says. fill_behind _ _ _ _ refl; cause = refl }

pub returns-in_err-push_values_for-clause-gathers : goal.returns-in_err-push_values_for-clause-gathers
returns-in_err-push_values_for-clause-gathers g c = grind (arith, err_from_is_err_and, fill_failed, fill_same, next_lines)

pub loop-h-preserved : goal.loop-h-preserved
loop-h-preserved g c = grind (arith, fill_more, fill_same, next_lines)

pub returns-clause-gathers : goal.returns-clause-gathers
returns-clause-gathers g c = λ s C says.
    fill_end _ _ _ _ (fill_same _ _ _ _ _ _ (no_lines s C c.args.advice.now.requests c.loop-h.h (omega arith)) (c.loop-h.invariant.filling s C says))
