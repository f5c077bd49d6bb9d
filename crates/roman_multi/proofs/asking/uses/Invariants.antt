use Rattle.roman_multi.proofs.Common.{IsFalse, not, list_any, below, is_empty, beh_next}
use Rattle.roman_multi.proofs.asking.uses.Given as goal

abbrev pub invariant-loop-t : goal.invariant-loop-t
invariant-loop-t l = IsFalse (list_any (λ b. list_any (λ e. not (is_empty (beh_next l.target.beh b e l.a))) (below l.env_states)) (below l.t))
