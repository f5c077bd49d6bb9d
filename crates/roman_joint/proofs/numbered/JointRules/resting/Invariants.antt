use Rattle.roman_joint.proofs.Common.{◌≡◌, ℕ, ◌<◌, ◌||◌, ltb, slice_get, all_below, sizes_of, is_on, system_of, lanes_in, low_in, lane_state_of, may_rest}
use Rattle.roman_joint.proofs.numbered.JointRules.resting.Given as goal

-- the lanes at which the seats within the lanes so far may rest
abbrev pub invariant-loop-k : goal.invariant-loop-k
invariant-loop-k l =
    let s = system_of l.self in
    (lane : ℕ) → lane < lanes_in s → is_on l.rests lane ≡ all_below (λ k. ltb k (low_in s) || may_rest (slice_get s.seats k) (lane_state_of (sizes_of s) k lane)) l.k
