-- The result of opening a system document, and the text that a run then writes.
use Rattle.std.specs.Prelude.{◌≡◌, ℕ, Bool, List, ◌++◌, Result, Ok, Err, nat_lt, codes, decimal, if◌then◌else◌}
use Rattle.roman_io.specs.Shelf.{Texts}
use Rattle.roman_model.specs.System.{Sys}
use Rattle.roman_library.specs.Documents.{library_of}
use Rattle.roman_library.specs.Library.{PlainLibrary}
use Rattle.roman_library.specs.declared.refusal.Refusal.{Refusal}
use Rattle.roman_joint.specs.NamedSys.{system_of, cells}
use Rattle.roman_start.specs.Starts.{parts_of}
use Rattle.roman_opening.specs.RefusalLine.{refusal_line}
use Rattle.roman_opening.specs.declared.status.Status.{Status}
use Rattle.roman_opening.specs.declared.status.Status.TheVariants as status

-- the run writes this text and ends with this status
abbrev pub EndsSaying : List ℕ → Status → List ℕ → Status → Type 0
EndsSaying text ends out result = (out ≡ text) × (result ≡ ends)

-- the system of a library
abbrev pub library_system : PlainLibrary → Sys
library_system library = system_of (parts_of library)

-- the starting cells exceed the limit
abbrev pub is_past_limit : PlainLibrary → Bool
is_past_limit library = nat_lt library.limit (cells (library_system library))

-- the line that reports an exceeded limit
abbrev pub limit_line : ℕ → List ℕ
limit_line limit = codes "limit " ++ decimal limit ++ codes "\n"

-- a document is refused, its library exceeds its limit, or it is accepted within its limit
pub data Opening : Type 0 where
  Refused : (refusal : Refusal) → Opening
  Past : (library : PlainLibrary) → Opening
  Accepted : (library : PlainLibrary) → Opening

-- the result of opening a document with that meaning
abbrev pub opening_of : Result PlainLibrary Refusal → Opening
opening_of (Err refusal) = Refused refusal
opening_of (Ok library) = if is_past_limit library then Past library else Accepted library

-- the result of opening the document of that name
abbrev pub document_opening : Texts → List ℕ → Opening
document_opening texts name = opening_of (library_of texts name)

-- if a library is accepted, the work is done on it; otherwise the run writes the line of the first refusal or of the limit
abbrev pub OnOpening : (PlainLibrary → List ℕ → Status → Type 0) → Opening → List ℕ → Status → Type 0
OnOpening Work (Refused refusal) out result = EndsSaying (refusal_line refusal) status.Refused out result
OnOpening Work (Past library) out result = EndsSaying (limit_line library.limit) status.Limit out result
OnOpening Work (Accepted library) out result = Work library out result
