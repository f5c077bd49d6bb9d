use Rattle.roman_multi.proofs.Common.{IsFalse, not, list_any, below, is_empty, beh_next}
use Rattle.roman_multi.proofs.asking.uses_at.Given as goal

abbrev pub invariant-loop-e : goal.invariant-loop-e
invariant-loop-e l = IsFalse (list_any (λ e. not (is_empty (beh_next l.target.beh l.t e l.a))) (below l.e))
