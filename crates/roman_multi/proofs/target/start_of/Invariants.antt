use Rattle.roman_multi.proofs.Common.{◌≡◌, map, take, machines}
use Rattle.roman_multi.proofs.target.start_of.Given as goal

abbrev pub invariant-loop-named : goal.invariant-loop-named
invariant-loop-named l = l.starts.items ≡ map (λ target. target.start) (machines (take l.named-index l.merge.targets.now))
