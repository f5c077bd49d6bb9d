-- The addition of a name to a list of names.
use Rattle.std.specs.Prelude.{◌≡◌, ℕ, List, [], ◌∷◌, ◌++◌, length, Some, None, Result, Ok, Err}
use Rattle.std.specs.List.{IsDistinct}
use Rattle.std.specs.Str.{bytes_eq}
use Rattle.roman_read.specs.Names.{place_of}
use Rattle.roman_read.specs.declared.table.AddError.{AddError}
use Rattle.roman_read.specs.declared.table.AddError.TheVariants.{Repeated, Memory}

-- no two of the names have the same bytes
abbrev pub AreDistinct : List (List ℕ) → Type 0
AreDistinct names = IsDistinct bytes_eq names

-- a new name is appended, a name that occurs already is refused with its place, and a refusal changes nothing
abbrev pub Adds : List (List ℕ) → List (List ℕ) → List ℕ → Result ℕ AddError → Type 0
Adds old new name (Ok place) = (place_of old name ≡ None) × (place ≡ length old) × (new ≡ old ++ name ∷ [])
Adds old new name (Err (Repeated place)) = (place_of old name ≡ Some place) × (new ≡ old)
Adds old new name (Err Memory) = (place_of old name ≡ None) × (new ≡ old)

-- the numbers of the errors of adding, in their order
abbrev pub add_error_number : AddError → ℕ
add_error_number (Repeated place) = 1
add_error_number Memory = 2
