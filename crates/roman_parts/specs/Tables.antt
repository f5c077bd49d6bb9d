-- Tables with one list for each cell, which hold the steps of a record.
use Rattle.std.specs.Prelude.{◌≡◌, ℕ, ◌+◌, ◌*◌, ◌<◌, ◌≤◌, ◌&&◌, not, Bool, List, [], ◌∷◌, length, MatchOption, Option, Some, slice_get, slice_index_or}
use Rattle.roman_model.specs.Lists.{is_empty}
use Rattle.roman_model.specs.System.{Env, Beh, has, IsEnv, IsDeterministic, is_final}
use Rattle.roman_model.specs.SystemArena.{env_next, env_prev, beh_next, beh_prev}
use Rattle.roman_model.specs.Made.{beh_from}
use Rattle.roman_model.specs.declared.limits.TheConstants.{MAX_STATES, MAX_ACTIONS}
use Rattle.roman_guard.specs.Meaning.{has_state}
use Rattle.roman_parts.specs.Named.{IsOver}

-- the list of k and action a has state n
abbrev pub list_has : ℕ → List (List ℕ) → ℕ → ℕ → ℕ → Bool
list_has actions lists k a n = has (slice_index_or lists (k * actions + a) []) n

-- the environment's numbers are in range, and the lists have its next and previous states
pub record HasStateLists (env : Env) (to from : List (List ℕ)) : Type 0 where
  pub known : IsEnv env
  pub next : (e a : ℕ) → e < env.states → a < env.actions → slice_get to (e * env.actions + a) ≡ Some (env_next env e a)
  pub prev : (e' a : ℕ) → e' < env.states → a < env.actions → slice_get from (e' * env.actions + a) ≡ Some (env_prev env e' a)

-- the result is the only state of the list, or none if the list is empty
abbrev pub IsSole : List ℕ → Option ℕ → Type 0
IsSole states result = MatchOption result (states ≡ []) (λ to. states ≡ to ∷ [])

-- both the environment and the behaviour have a step on the action
abbrev pub have_steps : Env → Beh → ℕ → ℕ → ℕ → Bool
have_steps env beh b e a = not (is_empty (env_next env e a)) && not (is_empty (beh_next beh b e a))

-- a behaviour with the numbers of states and actions of its environment
pub record GuardedBeh : Type 0 where
  pub env_states : ℕ
  pub actions : ℕ
  pub beh : Beh

-- the automaton with the final states of the mask and the steps of the lists, rising
abbrev pub automaton_of : ℕ → ℕ → ℕ → ℕ → ℕ → List (List ℕ) → GuardedBeh
automaton_of states env_states actions start mask lists = record {
  env_states = env_states;
  actions = actions;
  beh = beh_from env_states actions states start (has_state mask) (λ b e a b'. list_has actions lists (b * env_states + e) a b');
}

-- the behaviour's numbers are in range, the mask has its final states, and the lists, one for each cell, have its next and previous states
pub record HasGuardedLists (g : GuardedBeh) (mask : ℕ) (to from : List (List ℕ)) : Type 0 where
  pub env_states : (0 < g.env_states) × (g.env_states ≤ MAX_STATES)
  pub actions : (0 < g.actions) × (g.actions ≤ MAX_ACTIONS)
  pub start : g.beh.start < g.beh.states
  pub nexts : length to ≡ g.beh.states * g.env_states * g.actions
  pub prevs : length from ≡ g.beh.states * g.env_states * g.actions
  pub known : IsOver g.env_states g.actions g.beh
  pub final : (b : ℕ) → b < g.beh.states → is_final g.beh b ≡ has_state mask b
  pub next : (b e a : ℕ) → b < g.beh.states → e < g.env_states → a < g.actions →
      slice_get to ((b * g.env_states + e) * g.actions + a) ≡ Some (beh_next g.beh b e a)
  pub prev : (b' e a : ℕ) → b' < g.beh.states → e < g.env_states → a < g.actions →
      slice_get from ((b' * g.env_states + e) * g.actions + a) ≡ Some (beh_prev g.beh b' e a)

-- a target's automaton is deterministic, and has one state for each of the names
pub record IsNamedTarget (names : List (List ℕ)) (g : GuardedBeh) : Type 0 where
  pub count : length names ≡ g.beh.states
  pub single : IsDeterministic g.beh
