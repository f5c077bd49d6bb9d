use Rattle.roman_multi.proofs.Common.{◌≡◌, drop, target_sizes, states_at, are_final, machines}
use Rattle.roman_multi.proofs.target.are_final.Given as goal

abbrev pub invariant-loop-i : goal.invariant-loop-i
invariant-loop-i l =
    are_final (drop l.i (machines l.targets)) (drop l.i (states_at (target_sizes (machines l.targets)) l.t))
    ≡ are_final (machines l.targets) (states_at (target_sizes (machines l.targets)) l.t)
