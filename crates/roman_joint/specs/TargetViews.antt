-- Target views: the actions that the target and the environment allow.
use Rattle.std.specs.Prelude.{◌≡◌, ℕ, ◌*◌, ◌/◌, ◌%◌, ◌<◌, ◌≤◌, ◌&&◌, not, List, [], length, slice_index_or}
use Rattle.std.specs.Int.{bit_at}
use Rattle.roman_model.specs.Lists.{IsIn, is_empty}
use Rattle.roman_model.specs.System.{Env, Beh}
use Rattle.roman_model.specs.SystemArena.{env_next, env_prev, beh_next, beh_prev}
use Rattle.roman_rules.specs.Bits.{bit_of}
use Rattle.roman_parts.specs.Named.{NamedEnv, NamedTarget}
use Rattle.roman_joint.specs.NamedSys.{TargetIsOverEnv}
use Rattle.roman_joint.specs.declared.target_view.TargetView.{TargetView}

-- the target is made over the environment, and t and e are their states
pub record AreStates (environment : NamedEnv) (target : NamedTarget) (t e : ℕ) : Type 0 where
  pub over : TargetIsOverEnv environment target
  pub target_range : t < target.beh.states
  pub env_range : e < environment.env.states

-- the bits are those of the actions that are allowed in t and e
pub record ArePermitted (env : Env) (target : Beh) (t e bits : ℕ) : Type 0 where
  pub each : (a : ℕ) → a < env.actions → bit_at bits a ≡ bit_of (not (is_empty (env_next env e a)) && not (is_empty (beh_next target t e a)))
  pub rest : (a : ℕ) → env.actions ≤ a → bit_at bits a ≡ 0

-- an action whose bit isn't set doesn't lead to t and e
pub record AreLeading (env : Env) (target : Beh) (t e bits : ℕ) : Type 0 where
  pub others : (a : ℕ) → a < env.actions → bit_at bits a ≡ 0 → (e' : ℕ) → IsIn e' (env_prev env e a) → beh_prev target t e' a ≡ []

-- the target view is that of t and e
pub record IsTargetView (env : Env) (target : Beh) (t e : ℕ) (target_view : TargetView) : Type 0 where
  pub is_target : target_view.target ≡ t
  pub is_env : target_view.env ≡ e
  pub allowed : ArePermitted env target t e target_view.allowed
  pub leading : AreLeading env target t e target_view.leading

-- there is a target view for each state of the target and of the environment, ordered by the target's state and then by the environment's
pub record AreTargetViews (env : Env) (target : Beh) (target_views : List TargetView) : Type 0 where
  pub long : length target_views ≡ target.states * env.states
  pub each : (i : ℕ) (target_view : TargetView) → i < length target_views → target_view ≡ slice_index_or target_views i target_view → IsTargetView env target (i / env.states) (i % env.states) target_view
