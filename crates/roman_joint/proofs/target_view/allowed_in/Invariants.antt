use Rattle.roman_joint.proofs.Common.{◌≡◌, ℕ, ◌<◌, ◌≤◌, ◌&&◌, not, bit_at, is_empty, env_next, beh_next, bit_of}
use Rattle.roman_joint.proofs.target_view.allowed_in.Given as goal

-- the set is right for the actions so far, and has no other action
abbrev pub invariant-loop-a : goal.invariant-loop-a
invariant-loop-a l = record {
  asked : (b : ℕ) → b < l.a → bit_at l.allowed b ≡ bit_of (not (is_empty (env_next l.environment.env l.e b)) && not (is_empty (beh_next l.target.beh l.t l.e b)));
  rest : (b : ℕ) → l.a ≤ b → bit_at l.allowed b ≡ 0;
}
