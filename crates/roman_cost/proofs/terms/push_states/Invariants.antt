use Rattle.roman_cost.proofs.Common.{◌≡◌, ◌+◌, ◌*◌, ◌++◌, map, take, outcome_terms}
use Rattle.roman_cost.proofs.terms.push_states.Given as goal

-- the terms of the states so far
abbrev pub invariant-loop-state : goal.invariant-loop-state
invariant-loop-state l = l.terms.items ≡ l.initial.terms.items ++ outcome_terms l.ranks (map (λ b. l.from + b * l.stride) (take l.state-index l.states))
