use Rattle.roman_joint.proofs.Common.{◌≡◌, ℕ, ◌+◌, ◌*◌, ◌<◌, not, ◌&&◌, length, take, slice_index, list_any, is_on}
use Rattle.roman_joint.proofs.stripes.all_alive_each.Given as goal

-- the lanes that are set in the rows of the environment's states so far are left
abbrev pub invariant-loop-env : goal.invariant-loop-env
invariant-loop-env l = record {
  long : length l.all ≡ length l.fn.all;
  each : (i lane : ℕ) → i < length l.fn.all → is_on (slice_index l.all i) lane
      ≡ (is_on (slice_index l.fn.all i) lane
      && not (list_any (λ e. list_any (λ b. not (is_on (slice_index l.words (l.rows.base + i + e * l.rows.env_stride + b * l.rows.stride)) lane)) l.rows.states.now) (take l.env-index l.rows.envs.now)));
}
