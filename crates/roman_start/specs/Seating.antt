-- The result of seating a library, and its error.
use Rattle.std.specs.Prelude.{◌≡◌, ◌<◌, ◌≤◌, Result, Ok, Err, vec_capacity}
use Rattle.roman_model.specs.System.{IsPair}
use Rattle.roman_model.specs.Numbers.{sizes_of, count, number}
use Rattle.roman_model.specs.declared.limits.TheConstants.{MAX_SERVICES}
use Rattle.roman_joint.specs.NamedSys.{NamedSys, system_of, cells}
use Rattle.roman_joint.specs.declared.error.JointError.{JointError}
use Rattle.roman_joint.specs.declared.error.JointError.TheVariants.{Limit, Memory}
use Rattle.roman_library.specs.Library.{PlainLibrary}
use Rattle.roman_start.specs.Starts.{parts_of, start_pair_of}
use Rattle.roman_start.specs.declared.seating.Seated.{Seated}

-- the parts of the library, the states of its services and the number of its start pair, with room for the states of the greatest number of
-- services
pub record IsSeated (library : PlainLibrary) (seated : Seated) : Type 0 where
  pub parts : seated.joint ≡ parts_of library
  pub states : seated.states.items ≡ (start_pair_of library).bs
  pub pair : IsPair (system_of (parts_of library)) (start_pair_of library)
  pub start : seated.start ≡ number (sizes_of (system_of (parts_of library))) (start_pair_of library)
  pub below : seated.start < count (sizes_of (system_of (parts_of library)))
  pub room : MAX_SERVICES ≤ vec_capacity seated.states

-- the error is `Limit` exactly when the cells exceed the limit, unless memory runs out
abbrev pub IsWithinLimit : {T : Type 0} → NamedSys → Result T JointError → Type 0
IsWithinLimit parts (Ok x) = cells (system_of parts) ≤ parts.limit
IsWithinLimit parts (Err Limit) = parts.limit < cells (system_of parts)
IsWithinLimit parts (Err Memory) = Unit {0}
