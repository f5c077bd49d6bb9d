-- The system of a library, and its start pair.
use Rattle.std.specs.Prelude.{ℕ, List, map}
use Rattle.roman_model.specs.System.{Pair}
use Rattle.roman_joint.specs.NamedSys.{NamedSys}
use Rattle.roman_joint.specs.declared.seat.Seat.{Seat}
use Rattle.roman_library.specs.Library.{PlainLibrary}
use Rattle.roman_library.specs.declared.library.Service.{Service}

-- the seat of a service in a system
abbrev pub seat_of_service : Service → Seat
seat_of_service x = record { name = x.name; behaviour = x.behaviour; frozen = x.frozen; rests = x.rests }

-- the state in which a service starts
abbrev pub state_of_service : Service → ℕ
state_of_service x = x.state

-- the parts of the library, with seats for its services
abbrev pub parts_of : PlainLibrary → NamedSys
parts_of library = record {
  environment = library.environment;
  catalogue = library.catalogue;
  target = library.target;
  seats = map seat_of_service library.services;
  limit = library.limit;
}

-- the states in which the library's parts and services start
abbrev pub start_pair_of : PlainLibrary → Pair
start_pair_of library = record {
  t = library.target.beh.start;
  e = library.environment.env.start;
  bs = map state_of_service library.services;
}

-- the pair with the start states of the target and the environment, and these states of the services
abbrev pub starting : NamedSys → List ℕ → Pair
starting parts bs = record { t = parts.target.beh.start; e = parts.environment.env.start; bs = bs }
