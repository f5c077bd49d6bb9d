use Rattle.roman_joint.proofs.Common.{◌≡◌, ℕ, ◌<◌, ◌&&◌, slice_get, ltb, sizes_of, is_on, system_of, lanes_in, lane_state_of, may_rest}
use Rattle.roman_joint.proofs.fine.rests_within.Given as goal

-- the lanes of the states so far in which the seat may rest
abbrev pub invariant-loop-b : goal.invariant-loop-b
invariant-loop-b l =
    let s = system_of l.joint in
    (lane : ℕ) → lane < lanes_in s → is_on l.lanes lane ≡ (ltb (lane_state_of (sizes_of s) l.k lane) l.b
    && may_rest (slice_get s.seats l.k) (lane_state_of (sizes_of s) l.k lane))
