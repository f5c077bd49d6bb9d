use Rattle.roman_joint.proofs.Common.{◌≡◌, ℕ, [], take, IsIn, env_prev, beh_prev}
use Rattle.roman_joint.proofs.target_view.may_lead.Given as goal

-- the action doesn't lead there from the environment's states so far
abbrev pub invariant-loop-e : goal.invariant-loop-e
invariant-loop-e l = (e : ℕ) → IsIn e (take l.e-index (env_prev l.environment.env l.e2 l.a)) → beh_prev l.target.beh l.t2 e l.a ≡ []
