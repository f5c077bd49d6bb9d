use Rattle.roman_multi.proofs.Common.{◌≡◌, slice_get, flat_map, below, machines, used_at}
use Rattle.roman_multi.proofs.asking.requests.Given as goal

abbrev pub invariant-loop-i : goal.invariant-loop-i
invariant-loop-i l = l.requests.items ≡ flat_map (λ i. used_at l.env_states l.actions (slice_get (machines l.targets) i) i) (below l.i)
