use Rattle.roman_joint.proofs.Common.{◌≡◌, ℕ, ◌+◌, ◌<◌, ◌≤◌, ◌==◌, false, not, ◌&&◌, length, slice_index, ltb, list_any, is_empty, beh_next, lanes_of, is_on, lane_state_of}
use Rattle.roman_joint.proofs.shifts.shifts_of.Given as goal

-- the shifts from the states so far
abbrev pub invariant-loop-d : goal.invariant-loop-d
invariant-loop-d l = record {
  long : length l.lanes ≡ 128;
  each : (lane : ℕ) → lane < lanes_of l.shape.seats → is_on l.some lane ≡ (ltb (lane_state_of l.shape l.k lane) l.d && not (is_empty (beh_next l.behaviour.beh (lane_state_of l.shape l.k lane) l.e l.a)));
  rest : (lane : ℕ) → lanes_of l.shape.seats ≤ lane → is_on l.some lane ≡ false;
  goes : (j lane : ℕ) → lane < lanes_of l.shape.seats → is_on (slice_index l.lanes j) lane ≡ (ltb (lane_state_of l.shape l.k lane) l.d
      && list_any (λ b. b + slice_index l.shape.seats l.k == j + 1 + lane_state_of l.shape l.k lane) (beh_next l.behaviour.beh (lane_state_of l.shape l.k lane) l.e l.a));
}
