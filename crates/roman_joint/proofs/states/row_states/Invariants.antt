use Rattle.roman_joint.proofs.Common.{◌≡◌, ℕ, ◌<◌, length, slice_index, sizes_of, row_sizes, system_of, lane_state_of}
use Rattle.roman_joint.proofs.states.row_states.Given as goal

-- the states of the services so far
abbrev pub invariant-loop-k : goal.invariant-loop-k
invariant-loop-k l = record {
  long : length l.states ≡ 32;
  set : (j : ℕ) → j < l.k → slice_index l.states j ≡ lane_state_of (row_sizes (sizes_of (system_of l.joint))) j l.x;
}
