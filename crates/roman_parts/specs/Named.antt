-- Environments, behaviours and targets with the names of their states and actions.
use Rattle.std.specs.Prelude.{◌≡◌, ℕ, List, length}
use Rattle.roman_model.specs.System.{Env, Beh, IsBeh, IsDeterministic}

-- an environment: the names of its states and actions, each a list of bytes, and the record in normal form
pub record NamedEnv : Type 0 where
  pub states : List (List ℕ)
  pub actions : List (List ℕ)
  pub env : Env

-- a behaviour: its name, the names of its states, the numbers of states and actions of its environment, and the record in normal form
pub record NamedBeh : Type 0 where
  pub name : List ℕ
  pub states : List (List ℕ)
  pub env_states : ℕ
  pub actions : ℕ
  pub beh : Beh

-- a target: the names of its states, the numbers of states and actions of its environment, and the record in normal form
pub record NamedTarget : Type 0 where
  pub states : List (List ℕ)
  pub env_states : ℕ
  pub actions : ℕ
  pub beh : Beh

-- the numbers of the behaviour are in range over each environment with these numbers of states and actions
abbrev pub IsOver : ℕ → ℕ → Beh → Type 0
IsOver env_states actions beh = (env : Env) → env.states ≡ env_states → env.actions ≡ actions → IsBeh env beh

-- the behaviour is over the environment, and each of its states has a name
pub record IsBehaviour (environment : NamedEnv) (behaviour : NamedBeh) : Type 0 where
  pub env_states : behaviour.env_states ≡ environment.env.states
  pub actions : behaviour.actions ≡ environment.env.actions
  pub names : length behaviour.states ≡ behaviour.beh.states
  pub known : IsOver behaviour.env_states behaviour.actions behaviour.beh

-- the target is over the environment and is deterministic, and each of its states has a name
pub record IsTarget (environment : NamedEnv) (target : NamedTarget) : Type 0 where
  pub env_states : target.env_states ≡ environment.env.states
  pub actions : target.actions ≡ environment.env.actions
  pub names : length target.states ≡ target.beh.states
  pub known : IsOver target.env_states target.actions target.beh
  pub single : IsDeterministic target.beh
