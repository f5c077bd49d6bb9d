use Rattle.roman_joint.proofs.Common.{◌≡◌, ℕ, ◌+◌, ◌*◌, not, ◌&&◌, take, slice_index, list_any, is_on}
use Rattle.roman_joint.proofs.words.rows_alive.Given as goal

-- the lanes that are alive in the rows of the states so far
abbrev pub invariant-loop-state : goal.invariant-loop-state
invariant-loop-state l = (lane : ℕ) → is_on l.alive lane ≡ (is_on l.good lane && not (list_any (λ b. not (is_on (slice_index l.words (l.base + b * l.stride)) lane)) (take l.state-index l.states)))
