-- The made systems: workers, who wear out and are mended, and a target that requests the shift of one worker.
use Rattle.std.specs.Prelude.{ℕ, ◌∷◌, [], List, length, map, take, unwrap_or, codes, true, false}
use Rattle.roman_model.specs.Lists.{below}
use Rattle.roman_model.specs.Normal.{normal_env, normal_beh}
use Rattle.roman_model.specs.System.{Beh, Triple, Move}
use Rattle.roman_parts.specs.Named.{NamedEnv, NamedBeh, NamedTarget}
use Rattle.roman_read.specs.Names.{place_of}
use Rattle.roman_library.specs.Library.{PlainLibrary}
use Rattle.roman_library.specs.declared.library.Service.{Service}

-- the place of the name among the names, or a number out of range if it isn't one of them
abbrev pub number_in : List (List ℕ) → List ℕ → ℕ
number_in names name = unwrap_or (place_of names name) (length names)

-- a transition of a table: from a state, by an action, to a state
abbrev pub Transition : Type 0
Transition = List ℕ × List ℕ × List ℕ

-- ---- the environment

-- the name of the only state
abbrev pub floor_states : List (List ℕ)
floor_states = codes "floor" ∷ []

-- the names of the actions, by number
abbrev pub floor_actions : List (List ℕ)
floor_actions = codes "start" ∷ codes "stop" ∷ codes "mend" ∷ codes "hold" ∷ codes "go" ∷ []

-- a transition by the action from the floor to the floor
abbrev pub loop : ℕ → Triple
loop action = record { from = 0; action = action; to = 0 }

-- the environment: one state, with a loop on each action
unfoldable pub floor : NamedEnv
floor = record {
  states = floor_states;
  actions = floor_actions;
  env = normal_env (record { states = 1; actions = 5; start = 0; triples = map loop (below 5) });
}

-- a transition of a table as a step, with the guard of every environment state
abbrev pub move_in : List (List ℕ) → Transition → Move
move_in states transition = record {
  from = number_in states transition.0;
  guard = below 1;
  action = number_in floor_actions transition.1;
  to = number_in states transition.2;
}

-- a behaviour over the floor with its states, the first of which is the start, its final states and its transitions
abbrev pub machine : List (List ℕ) → List (List ℕ) → List Transition → Beh
machine states finals transitions = normal_beh 1 5 (record {
  states = length states;
  start = 0;
  finals = map (number_in states) finals;
  steps = map (move_in states) transitions;
})

-- ---- the workers

-- the names of a worker's states, by number
abbrev pub worker_states : List (List ℕ)
worker_states = codes "idle" ∷ codes "busy" ∷ codes "worn" ∷ []

-- the transitions of a worker, who becomes idle or worn when stopped
abbrev pub worker_transitions : List Transition
worker_transitions =
    (codes "idle", codes "start", codes "busy") ∷
    (codes "busy", codes "stop", codes "idle") ∷
    (codes "busy", codes "stop", codes "worn") ∷
    (codes "busy", codes "hold", codes "busy") ∷
    (codes "busy", codes "go", codes "busy") ∷
    (codes "worn", codes "mend", codes "idle") ∷
    (codes "idle", codes "mend", codes "idle") ∷
    []

-- the only behaviour of the catalogue
unfoldable pub worker : NamedBeh
worker = record {
  name = codes "worker";
  states = worker_states;
  env_states = 1;
  actions = 5;
  beh = machine worker_states (codes "idle" ∷ codes "worn" ∷ []) worker_transitions;
}

-- the names of the workers
abbrev pub worker_names : List (List ℕ)
worker_names =
    codes "w1" ∷ codes "w2" ∷ codes "w3" ∷ codes "w4" ∷ codes "w5" ∷ codes "w6" ∷ codes "w7" ∷ codes "w8" ∷ codes "w9" ∷ codes "w10" ∷ []

-- a worker that is idle, isn't frozen and isn't loose
abbrev pub idle_worker : List ℕ → Service
idle_worker name = record { name = name; behaviour = 0; state = 0; frozen = false; rests = true }

-- ---- the target

-- the names of the target's states, by number
abbrev pub shift_states : List (List ℕ)
shift_states = codes "rest" ∷ codes "work" ∷ codes "tidy" ∷ codes "pause" ∷ []

-- the transitions of the target: a shift starts, may pause, stops, and is tidied up
abbrev pub shift_transitions : List Transition
shift_transitions =
    (codes "rest", codes "start", codes "work") ∷
    (codes "work", codes "stop", codes "tidy") ∷
    (codes "tidy", codes "mend", codes "rest") ∷
    (codes "work", codes "hold", codes "pause") ∷
    (codes "pause", codes "go", codes "work") ∷
    []

-- the target: the shift of one worker
unfoldable pub shift : NamedTarget
shift = record {
  states = shift_states;
  env_states = 1;
  actions = 5;
  beh = machine shift_states (codes "rest" ∷ []) shift_transitions;
}

-- ---- the system

-- the library with the first n workers
unfoldable pub made : ℕ → PlainLibrary
made n = record {
  environment = floor;
  catalogue = worker ∷ [];
  services = map idle_worker (take n worker_names);
  target = shift;
  limit = 4_194_304;
}
