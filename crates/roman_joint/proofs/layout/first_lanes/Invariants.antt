use Rattle.roman_joint.proofs.Common.{◌≡◌, ℕ, ◌<◌, ◌≤◌, false, is_on, lane_has_state}
use Rattle.roman_joint.proofs.layout.first_lanes.Given as goal

-- the word is right for the lanes so far
abbrev pub invariant-loop-lane : goal.invariant-loop-lane
invariant-loop-lane l = record {
  set : (j : ℕ) → j < l.lane → is_on l.lanes j ≡ lane_has_state l.stride l.size 0 j;
  rest : (j : ℕ) → l.lane ≤ j → is_on l.lanes j ≡ false;
}
