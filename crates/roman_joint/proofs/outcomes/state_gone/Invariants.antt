use Rattle.roman_joint.proofs.Common.{◌≡◌, ℕ, ◌+◌, ◌*◌, Bool, not, drop, All, find}
use Rattle.roman_joint.proofs.outcomes.state_gone.Given as goal

-- the first pair that is gone is the first one among those that are left
abbrev pub invariant-loop-state : goal.invariant-loop-state
invariant-loop-state g l =
    (gone : ℕ → Bool) → All (λ b. (r : Bool) → goal.A-post g l.alive (l.row + b * l.stride) r → r ≡ not (gone (l.row + b * l.stride))) l.states →
    find (λ b. gone (l.row + b * l.stride)) (drop l.state-index l.states) ≡ find (λ b. gone (l.row + b * l.stride)) l.states
