-- A writer of parts, which is only a definition: JSON values that mean a given environment, behaviour or target.
use Rattle.std.specs.Prelude.{◌≡◌, ℕ, ◌<◌, ◌≤◌, List, [], ◌∷◌, map, length, Ok, IsTrue, codes}
use Rattle.serde_json.specs.Data.{Data, string, array, object, no_members, member}
use Rattle.serde_json.specs.View.{items_of}
use Rattle.roman_model.specs.Explanation.{name_at}
use Rattle.roman_model.specs.Lists.{IsIn, HasNoRepeats}
use Rattle.roman_model.specs.System.{Triple, Move, IsEnv, IsDeterministic}
use Rattle.roman_model.specs.declared.limits.TheConstants.{MAX_STATES, MAX_ACTIONS, MAX_STEPS}
use Rattle.roman_read.specs.Names.{is_name}
use Rattle.roman_parts.specs.Named.{NamedEnv, NamedBeh, NamedTarget, IsOver}
use Rattle.roman_document_laws.specs.Normals.{IsNormalEnv, IsNormalBeh}
use Rattle.roman_parts.specs.Parts.{environment_of, behaviour_of, target_of}

-- ---- the writer

-- the value of a list of values
abbrev pub list_value : List Data → Data
list_value ds = array (items_of ds)

-- the value of a list of names
abbrev pub names_value : List (List ℕ) → Data
names_value names = list_value (map string names)

-- the value of the name with number k
abbrev pub place_value : List (List ℕ) → ℕ → Data
place_value names k = string (name_at names k)

-- the value of a list of the names with these numbers
abbrev pub places_value : List (List ℕ) → List ℕ → Data
places_value names ks = list_value (map (place_value names) ks)

-- the value of a step of an environment, with the names of its states and its action
abbrev pub triple_value : List (List ℕ) → List (List ℕ) → Triple → Data
triple_value states actions x = list_value (place_value states x.from ∷ place_value actions x.action ∷ place_value states x.to ∷ [])

-- the value of a step of a behaviour or a target; the guard is written as the list of its states
abbrev pub move_value : List (List ℕ) → List (List ℕ) → List (List ℕ) → Move → Data
move_value env_states actions states x =
    list_value (place_value states x.from ∷ places_value env_states x.guard ∷ place_value actions x.action ∷ place_value states x.to ∷ [])

-- the value of an environment, with its members in the order of their names
abbrev pub environment_value : NamedEnv → Data
environment_value env =
    object (member (codes "actions") (names_value env.actions)
    (member (codes "start") (place_value env.states env.env.start)
    (member (codes "states") (names_value env.states)
    (member (codes "steps") (list_value (map (triple_value env.states env.actions) env.env.triples))
    no_members))))

-- the value of a behaviour over the environment
abbrev pub behaviour_value : NamedEnv → NamedBeh → Data
behaviour_value env b =
    object (member (codes "final") (places_value b.states b.beh.finals)
    (member (codes "name") (string b.name)
    (member (codes "start") (place_value b.states b.beh.start)
    (member (codes "states") (names_value b.states)
    (member (codes "steps") (list_value (map (move_value env.states env.actions b.states) b.beh.steps))
    no_members)))))

-- the value of a target over the environment
abbrev pub target_value : NamedEnv → NamedTarget → Data
target_value env t =
    object (member (codes "final") (places_value t.states t.beh.finals)
    (member (codes "start") (place_value t.states t.beh.start)
    (member (codes "states") (names_value t.states)
    (member (codes "steps") (list_value (map (move_value env.states env.actions t.states) t.beh.steps))
    no_members))))

-- ---- parts that a document can state

-- a document can list the names: 1 to `most` distinct names
pub record CanList (names : List (List ℕ)) (most : ℕ) : Type 0 where
  pub some : 0 < length names
  pub few : length names ≤ most
  pub named : (name : List ℕ) → IsIn name names → IsTrue (is_name name)
  pub once : HasNoRepeats names

-- a document can state the environment: it is in range and in normal form, with names that can be listed and few enough steps
pub record IsSayableEnv (env : NamedEnv) : Type 0 where
  pub states : CanList env.states MAX_STATES
  pub actions : CanList env.actions MAX_ACTIONS
  pub state_count : length env.states ≡ env.env.states
  pub action_count : length env.actions ≡ env.env.actions
  pub known : IsEnv env.env
  pub form : IsNormalEnv env.env
  pub few : length env.env.triples ≤ MAX_STEPS

-- a document can state the behaviour: it is in range over the environment and in normal form, with a name, state names that can be listed and few enough steps
pub record IsSayableBeh (env : NamedEnv) (b : NamedBeh) : Type 0 where
  pub name : IsTrue (is_name b.name)
  pub states : CanList b.states MAX_STATES
  pub state_count : length b.states ≡ b.beh.states
  pub env_states : b.env_states ≡ env.env.states
  pub actions : b.actions ≡ env.env.actions
  pub known : IsOver env.env.states env.env.actions b.beh
  pub form : IsNormalBeh b.beh
  pub few : length b.beh.steps ≤ MAX_STEPS

-- a document can state the target: it is in range over the environment, deterministic and in normal form, with names that can be listed and few enough steps
pub record IsSayableTarget (env : NamedEnv) (t : NamedTarget) : Type 0 where
  pub states : CanList t.states MAX_STATES
  pub state_count : length t.states ≡ t.beh.states
  pub env_states : t.env_states ≡ env.env.states
  pub actions : t.actions ≡ env.env.actions
  pub known : IsOver env.env.states env.env.actions t.beh
  pub single : IsDeterministic t.beh
  pub form : IsNormalBeh t.beh
  pub few : length t.beh.steps ≤ MAX_STEPS

-- the written value of each part that a document can state means that part
pub record PartsAreSaid : Type 0 where
  pub environment : (env : NamedEnv) → IsSayableEnv env → environment_of (environment_value env) ≡ Ok env
  pub behaviour : (env : NamedEnv) (b : NamedBeh) → IsSayableEnv env → IsSayableBeh env b → behaviour_of env (behaviour_value env b) ≡ Ok b
  pub target : (env : NamedEnv) (t : NamedTarget) → IsSayableEnv env → IsSayableTarget env t → target_of env (target_value env t) ≡ Ok t
