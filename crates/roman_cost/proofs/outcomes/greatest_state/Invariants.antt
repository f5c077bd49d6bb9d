use Rattle.roman_cost.proofs.Common.{◌≡◌, ◌+◌, ◌*◌, take, max_over, ranked}
use Rattle.roman_cost.proofs.outcomes.greatest_state.Given as goal

-- the greatest value so far
abbrev pub invariant-loop-state : goal.invariant-loop-state
invariant-loop-state l = l.greatest ≡ max_over (λ b. ranked l.ranks l.later (l.from + b * l.stride)) (take l.state-index l.states)
