-- Environments, behaviours and targets built from lists of steps.
use Rattle.std.specs.Prelude.{ℕ, ◌^◌, ◌<◌, ◌≤◌, List, length, map, All}
use Rattle.roman_model.specs.System.{Triple, Env, Move, Beh}
use Rattle.roman_model.specs.Normal.{normal_env, normal_beh}
use Rattle.roman_model.specs.declared.limits.TheConstants.{MAX_STATES, MAX_STEPS}
use Rattle.roman_guard.specs.Meaning.{states_of}
use Rattle.roman_parts.specs.Named.{NamedEnv, NamedBeh, NamedTarget}
use Rattle.roman_parts.specs.Tables.{GuardedBeh}
use Rattle.roman_parts.specs.declared.cells.Cells.{Cells}

-- a number from 1 to `most`
abbrev pub IsCountUpTo : ℕ → ℕ → Type 0
IsCountUpTo most n = (0 < n) × (n ≤ most)

-- the step (state, action, state) as a record
abbrev pub triple_of : ℕ × ℕ × ℕ → Triple
triple_of t = record { from = t.0; action = t.1; to = t.2 }

-- the environment with these steps
abbrev pub listed_env : ℕ → ℕ → ℕ → List (ℕ × ℕ × ℕ) → Env
listed_env states actions start steps = record { states = states; actions = actions; start = start; triples = map triple_of steps }

-- the step (state, guard, action, state) as a record; the guard is a word of states
abbrev pub move_of : ℕ × ℕ × ℕ × ℕ → Move
move_of m = record { from = m.0; guard = states_of m.1; action = m.2; to = m.3 }

-- the steps as records
abbrev pub records : List (ℕ × ℕ × ℕ × ℕ) → List Move
records steps = map move_of steps

-- the behaviour with these final states and steps
abbrev pub listed_beh : ℕ → ℕ → List ℕ → List (ℕ × ℕ × ℕ × ℕ) → Beh
listed_beh states start finals steps = record { states = states; start = start; finals = finals; steps = map move_of steps }

-- the environment with these names and steps, in normal form
abbrev pub named_env : List (List ℕ) → List (List ℕ) → ℕ → List (ℕ × ℕ × ℕ) → NamedEnv
named_env states actions start steps = record {
  states = states;
  actions = actions;
  env = normal_env (listed_env (length states) (length actions) start steps);
}

-- the behaviour over the environment with these names, final states and steps, in normal form
abbrev pub named_beh : NamedEnv → List ℕ → List (List ℕ) → ℕ → List ℕ → List (ℕ × ℕ × ℕ × ℕ) → NamedBeh
named_beh env name states start finals steps = record {
  name = name;
  states = states;
  env_states = env.env.states;
  actions = env.env.actions;
  beh = normal_beh env.env.states env.env.actions (listed_beh (length states) start finals steps);
}

-- the target over the environment with these names, final states and steps, in normal form
abbrev pub named_target : NamedEnv → List (List ℕ) → ℕ → List ℕ → List (ℕ × ℕ × ℕ × ℕ) → NamedTarget
named_target env states start finals steps = record {
  states = states;
  env_states = env.env.states;
  actions = env.env.actions;
  beh = normal_beh env.env.states env.env.actions (listed_beh (length states) start finals steps);
}

-- the automaton with these numbers, final states and steps, in normal form
abbrev pub guarded_beh : Cells → ℕ → List ℕ → List (ℕ × ℕ × ℕ × ℕ) → GuardedBeh
guarded_beh cells start finals steps = record {
  env_states = cells.env_states;
  actions = cells.actions;
  beh = normal_beh cells.env_states cells.actions (listed_beh cells.states start finals steps);
}

-- the states and actions of the steps are in range
abbrev pub AreTriples : ℕ → ℕ → List (ℕ × ℕ × ℕ) → Type 0
AreTriples states actions steps = All (λ t. (t.0 < states) × (t.1 < actions) × (t.2 < states)) steps

-- the states and the action of the step are in range
abbrev pub IsMove : ℕ → ℕ → ℕ × ℕ × ℕ × ℕ → Type 0
IsMove states actions m = (m.0 < states) × (m.2 < actions) × (m.3 < states)

-- the states and actions of the steps are in range
abbrev pub AreMoves : ℕ → ℕ → List (ℕ × ℕ × ℕ × ℕ) → Type 0
AreMoves states actions steps = All (IsMove states actions) steps

-- there are 1 to MAX_STATES states, and the start state, the final states and the steps are in range
pub record AreInRange (states actions start : ℕ) (finals : List ℕ) (steps : List (ℕ × ℕ × ℕ × ℕ)) : Type 0 where
  pub count : IsCountUpTo MAX_STATES states
  pub begins : start < states
  pub stops : All (λ b. b < states) finals
  pub moves : AreMoves states actions steps

-- the guards of the steps are words of the environment's states
abbrev pub AreGuarded : List (List ℕ) → List (ℕ × ℕ × ℕ × ℕ) → Type 0
AreGuarded env_states steps = All (λ m. m.1 < 2 ^ length env_states) steps

-- the environment's states, the actions and the states are at most 64 each
pub record AreFewNames (env_states actions states : List (List ℕ)) : Type 0 where
  pub env_states_few : length env_states ≤ 64
  pub actions_few : length actions ≤ 64
  pub states_few : length states ≤ 64

-- the step has states and an action with these names, and a guard over the environment's states
pub record IsStepOf (env_states actions states : List (List ℕ)) (m : ℕ × ℕ × ℕ × ℕ) : Type 0 where
  pub within : IsMove (length states) (length actions) m
  pub guard : m.1 < 2 ^ length env_states

-- at most MAX_STEPS steps have states and actions with these names, and guards over the environment's states
pub record AreStepsOf (env_states actions states : List (List ℕ)) (steps : List (ℕ × ℕ × ℕ × ℕ)) : Type 0 where
  pub within : AreMoves (length states) (length actions) steps
  pub guards : AreGuarded env_states steps
  pub few : length steps ≤ MAX_STEPS
