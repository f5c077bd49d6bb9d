use Rattle.roman_joint.proofs.Common.{◌≡◌, ℕ, ◌+◌, ◌==◌, ◌&&◌, ◌||◌, length, take, slice_index, list_any, is_on}
use Rattle.roman_joint.proofs.shifts.add_shifts.Given as goal

-- the shifts to the states so far
abbrev pub invariant-loop-b : goal.invariant-loop-b
invariant-loop-b l = record {
  long : length l.lanes ≡ length l.fn.lanes;
  shifts : (j lane : ℕ) → is_on (slice_index l.lanes j) lane ≡ (is_on (slice_index l.fn.lanes j) lane || (is_on l.here lane && list_any (λ b. b + l.up == j) (take l.b-index l.states)));
}
