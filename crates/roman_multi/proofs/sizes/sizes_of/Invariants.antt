use Rattle.roman_multi.proofs.Common.{◌≡◌, take, All, target_sizes, IsTarget, machines}
use Rattle.roman_multi.proofs.sizes.sizes_of.Given as goal

abbrev pub invariant-loop-i : goal.invariant-loop-i
invariant-loop-i l = record {
  sizes : l.sizes.items ≡ target_sizes (machines (take l.i l.targets));
  known : All (λ named. IsTarget l.env named.target) (take l.i l.targets);
}
