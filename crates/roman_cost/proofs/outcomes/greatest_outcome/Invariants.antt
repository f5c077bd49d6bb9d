use Rattle.roman_cost.proofs.Common.{◌≡◌, ◌+◌, ◌*◌, take, max_over, ranked}
use Rattle.roman_cost.proofs.outcomes.greatest_outcome.Given as goal

-- the greatest value so far
abbrev pub invariant-loop-env : goal.invariant-loop-env
invariant-loop-env l = l.greatest ≡ max_over (λ e. max_over (λ b. ranked l.ranks l.later (l.base + e * l.env_stride + b * l.stride)) l.states) (take l.env-index l.envs)
