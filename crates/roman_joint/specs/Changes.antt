-- Services after one is frozen or thawed.
use Rattle.std.specs.Prelude.{ℕ, zero, suc, Bool, List, [], ◌∷◌}
use Rattle.roman_joint.specs.declared.seat.Seat.{Seat}

-- the services, with the one at place k frozen or ready
abbrev pub with_frozen : List Seat → ℕ → Bool → List Seat
with_frozen [] k frozen = []
with_frozen (seat ∷ seats) zero frozen = record { name = seat.name; behaviour = seat.behaviour; frozen = frozen; rests = seat.rests } ∷ seats
with_frozen (seat ∷ seats) (suc k) frozen = seat ∷ with_frozen seats k frozen
