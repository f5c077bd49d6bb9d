use Rattle.roman_joint.proofs.Common.{◌≡◌, ℕ, ◌/◌, ◌%◌, ◌<◌, ◌≤◌, ◌&&◌, length, slice_index, beh_next, is_on, fails}
use Rattle.roman_joint.proofs.band.clear_own.Given as goal

-- the words of the states so far are cleared
abbrev pub invariant-loop-b : goal.invariant-loop-b
invariant-loop-b l = record {
  long : length l.left ≡ length l.fn.left;
  each : (i lane : ℕ) → i < length l.fn.left → i / l.stride % l.size < l.b → is_on (slice_index l.left i) lane
      ≡ (is_on (slice_index l.fn.left i) lane && fails l.stride i (i / l.stride % l.size) (beh_next l.behaviour.beh (i / l.stride % l.size) l.e l.a) l.alive lane);
  others : (i : ℕ) → l.b ≤ i / l.stride % l.size → slice_index l.left i ≡ slice_index l.fn.left i;
}
