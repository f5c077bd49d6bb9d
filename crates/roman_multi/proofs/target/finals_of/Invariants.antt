use Rattle.roman_multi.proofs.Common.{◌≡◌, filter, target_sizes, below, states_at, are_final, machines}
use Rattle.roman_multi.proofs.target.finals_of.Given as goal

abbrev pub invariant-loop-t : goal.invariant-loop-t
invariant-loop-t l = l.finals.items ≡ filter (λ t. are_final (machines l.targets) (states_at (target_sizes (machines l.targets)) t)) (below l.t)
