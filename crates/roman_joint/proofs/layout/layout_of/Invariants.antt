use Rattle.roman_joint.proofs.Common.{◌≡◌, ℕ, ◌/◌, ◌<◌, length, slice_index, ltb, if◌then◌else◌, stride_of, is_on, lane_has_state}
use Rattle.roman_joint.proofs.layout.layout_of.Given as goal

-- the numbers of the services so far are set
abbrev pub invariant-loop-k : goal.invariant-loop-k
invariant-loop-k l = record {
  many : length l.strides ≡ 32;
  long : length l.sizes ≡ 32;
  wide : length l.firsts ≡ 32;
  set : (j : ℕ) → j < l.k → slice_index l.strides j ≡ (if ltb j l.low then stride_of l.shape j / l.lanes else stride_of l.shape j);
  sizes : (j : ℕ) → j < l.k → slice_index l.sizes j ≡ slice_index l.shape.seats j;
  firsts : (j lane : ℕ) → j < l.k → lane < 64 → is_on (slice_index l.firsts j) lane ≡ lane_has_state (stride_of l.shape j) (slice_index l.shape.seats j) 0 lane;
}
