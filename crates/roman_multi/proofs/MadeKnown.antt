-- Combined parts that no rule forbids are in range.
use Rattle.roman_multi.proofs.Common.{◌≡◌, ℕ, ◌<◌, ◌≤◌, Bool, false, List, length, All, Some, None, IsFalse, refl, subst, arith, true, cond, product_of, IsEnv, IsBeh, IsSys, beh_from, combined, combined_beh, combined_target, target_sizes, MAX_STATES, Request, combined_system, IsBeh-made, ltb-false, NamedEnv, NamedBeh, IsOver, IsTarget, IsOver-states, IsOver-start, machines, requests_in, has_many_states, has_bad_count, has_long_name, has_one_name, forbidding, Named}
use Rattle.roman_multi.specs.declared.error.CombineError.TheVariants as error
use Rattle.roman_multi.proofs.KnownLemmas.{several, several_is}
use Rattle.roman_multi.proofs.CombineLemmas.{good_count}

-- no rule is broken
pub record AreAllowed (env : NamedEnv) (targets : List Named) : Type 0 where
  pub states : IsFalse (has_many_states targets)
  pub actions : IsFalse (has_bad_count (requests_in env targets))
  pub short : IsFalse (has_long_name env targets)
  pub apart : IsFalse (has_one_name env targets)

none_chosen : (a b c d : Bool) → cond a (Some error.States) (cond b (Some error.Actions) (cond c (Some error.LongName) (cond d (Some error.Repeated) None))) ≡ None →
    IsFalse a × IsFalse b × IsFalse c × IsFalse d
none_chosen true b c d h = cc
none_chosen false true c d h = cc
none_chosen false false true d h = cc
none_chosen false false false true h = cc
none_chosen false false false false h = (refl, refl, refl, refl)

pub are_allowed : (env : NamedEnv) (targets : List Named) → forbidding env targets ≡ None → AreAllowed env targets
unfolding forbidding
are_allowed env targets h = grind (arith, none_chosen)

-- a record built from tests is in range over each environment with these numbers
pub IsOver-made : (env_states actions states start : ℕ) (final : ℕ → Bool) (goes : ℕ → ℕ → ℕ → ℕ → Bool) → (0 < states) × (states ≤ MAX_STATES) → start < states →
    IsOver env_states actions (beh_from env_states actions states start final goes)
IsOver-made env_states actions states start final goes some begins env es ns =
    subst (λ n. IsBeh env (beh_from n actions states start final goes)) es (subst (λ n. IsBeh env (beh_from env.states n states start final goes)) ns
    (IsBeh-made env states start final goes some begins))

-- a behaviour over the combined actions is in range
pub combined_behaviour_over : (env : NamedEnv) (requests : List Request) (behaviour : NamedBeh) → IsOver behaviour.env_states behaviour.actions behaviour.beh →
    IsOver env.env.states (length requests) (combined_beh env.env.states requests behaviour.beh)
combined_behaviour_over env requests behaviour known = IsOver-made _ _ _ _ _ _ (IsOver-states _ _ _ known) (IsOver-start _ _ _ known)

module _ (env : NamedEnv) (targets : List Named) (world : IsEnv env.env) (known : All (λ named. IsTarget env named.target) targets) (allowed : forbidding env targets ≡ None) where
  pub combined_is_system : IsSys (combined (several env targets))
  combined_is_system =
      let are = are_allowed env targets allowed in
      combined_system (several env targets) (several_is env targets world known (ltb-false MAX_STATES (product_of (target_sizes (machines targets))) are.states) (good_count (requests_in env targets) are.actions))

  pub combined_target_over : IsOver env.env.states (length (requests_in env targets)) (combined_target env.env.states (requests_in env targets) (machines targets))
  combined_target_over =
      IsOver-made env.env.states (length (requests_in env targets)) _ _ _ _ combined_is_system.target.states combined_is_system.target.start
