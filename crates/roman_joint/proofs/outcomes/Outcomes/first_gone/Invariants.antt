use Rattle.roman_joint.proofs.Common.{◌≡◌, ℕ, Bool, not, map, drop, All, find, flat_map, outcome_number}
use Rattle.roman_joint.proofs.outcomes.Outcomes.first_gone.Given as goal

-- the first pair that is gone is the first one among those that are left
abbrev pub invariant-loop-env : goal.invariant-loop-env
invariant-loop-env g l =
    let number = outcome_number l.self in
    (gone : ℕ → Bool) → All (λ e. All (λ b. (r : Bool) → goal.A-post g l.alive (number e b) r → r ≡ not (gone (number e b))) l.self.states.now) l.self.envs.now →
    find gone (flat_map (λ e. map (number e) l.self.states.now) (drop l.env-index l.self.envs.now)) ≡ find gone (flat_map (λ e. map (number e) l.self.states.now) l.self.envs.now)
