-- Seats that take delegations, and seats that don't.
use Rattle.std.specs.Prelude.{ℕ, IsTrue, IsFalse}
use Rattle.roman_model.specs.SystemArena.{is_ready}
use Rattle.roman_joint.specs.NamedSys.{NamedSys}
use Rattle.roman_joint.specs.Pairs.{joint_seat}

-- the seat at place k takes delegations
abbrev pub IsReadyAt : NamedSys → ℕ → Type 0
IsReadyAt joint k = IsTrue (is_ready (joint_seat joint k))

-- the seat at place k is frozen, or there is none
abbrev pub IsFrozenAt : NamedSys → ℕ → Type 0
IsFrozenAt joint k = IsFalse (is_ready (joint_seat joint k))
