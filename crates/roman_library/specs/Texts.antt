-- The documents in the texts on a shelf.
use Rattle.std.specs.Prelude.{◌≡◌, ℕ, ◌<◌, ◌≤◌, List, length, Option, Some, None, Result, Ok, Err}
use Rattle.std.specs.Global.{Vec}
use Rattle.serde_json.specs.declared.value.Value.{Value}
use Rattle.serde_json.specs.View.{view}
use Rattle.roman_io.specs.Faults.{Rose}
use Rattle.roman_io.specs.Shelf.{Texts, shelf_text}
use Rattle.roman_model.specs.declared.limits.TheConstants.{MAX_DOCUMENT_BYTES}
use Rattle.roman_read.specs.Json.{json_of}
use Rattle.roman_library.specs.declared.text.DocError.{DocError}
use Rattle.roman_library.specs.declared.text.DocError.TheVariants as error

-- the numbers of the errors, in their order
abbrev pub doc_error_number : DocError → ℕ
doc_error_number error.Fault = 1
doc_error_number error.TooLong = 2
doc_error_number error.NotJson = 3
doc_error_number error.Memory = 4

-- the count of faults rose if the result is a fault, and stayed the same otherwise
abbrev pub Caused : {T : Type 0} → ℕ → ℕ → Result T DocError → Type 0
Caused old new (Ok x) = new ≡ old
Caused old new (Err error.Fault) = Rose old new
Caused old new (Err error.TooLong) = new ≡ old
Caused old new (Err error.NotJson) = new ≡ old
Caused old new (Err error.Memory) = new ≡ old

-- the bytes are those of the text, which isn't longer than a document may be; or the text is longer
abbrev pub IsTextOf : Option Texts → List ℕ → Result (Vec ℕ) DocError → Type 0
IsTextOf None name result = Unit {0}
IsTextOf (Some texts) name (Ok bytes) = (bytes.items ≡ shelf_text texts name) × (length (shelf_text texts name) ≤ MAX_DOCUMENT_BYTES)
IsTextOf (Some texts) name (Err error.Fault) = Unit {0}
IsTextOf (Some texts) name (Err error.TooLong) = MAX_DOCUMENT_BYTES < length (shelf_text texts name)
IsTextOf (Some texts) name (Err error.NotJson) = ⊥
IsTextOf (Some texts) name (Err error.Memory) = Unit {0}

-- the value is that of the text, which isn't longer than a document may be; or the text is longer, or isn't JSON
abbrev pub IsValueOf : Option Texts → List ℕ → Result Value DocError → Type 0
IsValueOf None name result = Unit {0}
IsValueOf (Some texts) name (Ok value) = (json_of (shelf_text texts name) ≡ Some (view value)) × (length (shelf_text texts name) ≤ MAX_DOCUMENT_BYTES)
IsValueOf (Some texts) name (Err error.Fault) = Unit {0}
IsValueOf (Some texts) name (Err error.TooLong) = MAX_DOCUMENT_BYTES < length (shelf_text texts name)
IsValueOf (Some texts) name (Err error.NotJson) = (json_of (shelf_text texts name) ≡ None) × (length (shelf_text texts name) ≤ MAX_DOCUMENT_BYTES)
IsValueOf (Some texts) name (Err error.Memory) = Unit {0}
