-- The library that has a session's present services and begins in its present states.
use Rattle.std.specs.Prelude.{ℕ, List, [], ◌∷◌}
use Rattle.roman_joint.specs.declared.seat.Seat.{Seat}
use Rattle.roman_library.specs.Library.{PlainLibrary}
use Rattle.roman_library.specs.declared.library.Service.{Service}
use Rattle.roman_session.specs.States.{State}

-- the services, each in its present state
abbrev pub services_in : List Seat → List ℕ → List Service
services_in [] bs = []
services_in (seat ∷ seats) [] = []
services_in (seat ∷ seats) (b ∷ bs) =
    record { name = seat.name; behaviour = seat.behaviour; state = b; frozen = seat.frozen; rests = seat.rests } ∷ services_in seats bs

-- the library with the present services that begins in the present states
abbrev pub afresh : State → PlainLibrary
afresh s = record {
  environment = record s.parts.environment { env = record s.parts.environment.env { start = s.here.e } };
  catalogue = s.parts.catalogue;
  services = services_in s.parts.seats s.here.bs;
  target = record s.parts.target { beh = record s.parts.target.beh { start = s.here.t } };
  limit = s.parts.limit;
}
