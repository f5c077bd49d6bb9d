use Rattle.roman_joint.proofs.Common.{◌≡◌, ℕ, ◌+◌, ◌*◌, ◌<◌, not, ◌&&◌, length, take, slice_index, list_any, is_on}
use Rattle.roman_joint.proofs.stripes.rows_alive_each.Given as goal

-- the lanes that are set in the rows of the states so far are left
abbrev pub invariant-loop-state : goal.invariant-loop-state
invariant-loop-state l = record {
  long : length l.all ≡ length l.fn.all;
  each : (i lane : ℕ) → i < length l.fn.all → is_on (slice_index l.all i) lane
      ≡ (is_on (slice_index l.fn.all i) lane && not (list_any (λ b. not (is_on (slice_index l.words (l.base + i + b * l.stride)) lane)) (take l.state-index l.states)));
}
