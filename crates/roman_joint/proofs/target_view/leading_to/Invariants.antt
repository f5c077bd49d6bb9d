use Rattle.roman_joint.proofs.Common.{◌≡◌, ℕ, ◌<◌, [], bit_at, IsIn, env_prev, beh_prev}
use Rattle.roman_joint.proofs.target_view.leading_to.Given as goal

-- of the actions so far, those outside the set don't lead there
abbrev pub invariant-loop-a : goal.invariant-loop-a
invariant-loop-a l = (b : ℕ) → b < l.a → bit_at l.leading b ≡ 0 → (e : ℕ) → IsIn e (env_prev l.environment.env l.e2 b) → beh_prev l.target.beh l.t2 e b ≡ []
