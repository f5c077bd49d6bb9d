use Rattle.roman_joint.proofs.Common.{◌≡◌, true, ◌||◌, ltb, slice_get, all_below, sizes_of, row_sizes, system_of, lane_state_of, may_rest, mid_in}
use Rattle.roman_joint.proofs.fine.own_rests.Given as goal

-- the seats so far may rest
abbrev pub invariant-loop-k : goal.invariant-loop-k
invariant-loop-k l =
    let s = system_of l.joint in
    all_below (λ k. ltb k (mid_in s) || may_rest (slice_get s.seats k) (lane_state_of (row_sizes (sizes_of s)) k l.i)) l.k ≡ true
