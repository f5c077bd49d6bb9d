use Rattle.roman_cost.proofs.Common.{◌≡◌, ◌+◌, ◌*◌, ◌++◌, map, take, flat_map, outcome_terms}
use Rattle.roman_cost.proofs.terms.push_outcomes.Given as goal

-- the terms of the environment's states so far
abbrev pub invariant-loop-env : goal.invariant-loop-env
invariant-loop-env l = l.terms.items ≡ l.initial.terms.items ++ flat_map (λ e. outcome_terms l.ranks (map (λ b. l.base + e * l.env_stride + b * l.stride) l.states)) (take l.env-index l.envs)
