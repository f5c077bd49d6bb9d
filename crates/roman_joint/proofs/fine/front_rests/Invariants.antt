use Rattle.roman_joint.proofs.Common.{◌≡◌, true, slice_get, slice_index, all_below, system_of, may_rest}
use Rattle.roman_joint.proofs.fine.front_rests.Given as goal

-- the seats so far may rest
abbrev pub invariant-loop-k : goal.invariant-loop-k
invariant-loop-k l = all_below (λ k. may_rest (slice_get (system_of l.joint).seats k) (slice_index l.row.states k)) l.k ≡ true
