use Rattle.roman_joint.proofs.Common.{◌≡◌, ℕ, ◌+◌, ◌*◌, not, ◌&&◌, take, slice_index, list_any, is_on}
use Rattle.roman_joint.proofs.words.all_alive.Given as goal

-- the lanes that are alive in the rows of the environment's states so far
abbrev pub invariant-loop-env : goal.invariant-loop-env
invariant-loop-env l = (lane : ℕ) → is_on l.alive lane ≡ (is_on l.good lane
    && not (list_any (λ e. list_any (λ b. not (is_on (slice_index l.words (l.rows.base + e * l.rows.env_stride + b * l.rows.stride)) lane)) l.rows.states.now) (take l.env-index l.rows.envs.now)))
