use Rattle.roman_multi.proofs.Common.{◌≡◌, ◌++◌, map, flat_map, slice_get, below, next_on}
use Rattle.roman_multi.proofs.environment.push_state.Given as goal

abbrev pub invariant-loop-n : goal.invariant-loop-n
invariant-loop-n l = l.steps.items ≡ l.fn.steps.items ++ flat_map (λ n. map (λ to. (l.e, n, to)) (next_on l.env.env l.e (slice_get l.requests n))) (below l.n)
