-- The names of a system's states, actions and services.
use Rattle.std.specs.Prelude.{ℕ, List, [], map, slice_index_or}
use Rattle.roman_model.specs.Explanation.{Names, SeatNames}
use Rattle.roman_parts.specs.Named.{NamedBeh}
use Rattle.roman_joint.specs.NamedSys.{NamedSys}
use Rattle.roman_joint.specs.declared.seat.Seat.{Seat}

-- a service's name
abbrev pub seat_name : Seat → List ℕ
seat_name seat = seat.name

-- a behaviour's name
abbrev pub beh_name : NamedBeh → List ℕ
beh_name beh = beh.name

-- the names of a behaviour's states
abbrev pub beh_states : NamedBeh → List (List ℕ)
beh_states beh = beh.states

-- the names of the states of the behaviour at a place of the catalogue
abbrev pub states_of_behaviour : List NamedBeh → ℕ → List (List ℕ)
states_of_behaviour catalogue i = slice_index_or (map beh_states catalogue) i []

-- the name of a service, and the names of its states
abbrev pub names_of_seat : List NamedBeh → Seat → SeatNames
names_of_seat catalogue seat = record { service = seat.name; states = states_of_behaviour catalogue seat.behaviour }

-- the names of states, actions and services
abbrev pub names_in : NamedSys → Names
names_in parts = record {
  target = parts.target.states;
  env = parts.environment.states;
  actions = parts.environment.actions;
  seats = map (names_of_seat parts.catalogue) parts.seats;
}
