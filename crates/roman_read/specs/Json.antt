-- The JSON values of texts, and the content of values.
use Rattle.std.specs.Prelude.{◌≡◌, ℕ, Bool, List, Option, Some, None, Result, Ok, Err, is_some, option_and_then, if◌then◌else◌}
use Rattle.std.specs.Option.{ok_or}
use Rattle.std.specs.Str.{is_utf8}
use Rattle.serde_json.specs.Data.{Data, Items}
use Rattle.serde_json.specs.Find.{get, as_object, as_str, as_array, as_number, as_u64, as_bool}
use Rattle.serde_json.specs.Read.{read}
use Rattle.serde_json.specs.View.{view}
use Rattle.serde_json.specs.declared.value.Value.{Value}
use Rattle.roman_read.specs.declared.rules.Miss.{Miss}
use Rattle.roman_read.specs.declared.rules.Miss.TheVariants.{Missing, Form}
use Rattle.roman_read.specs.declared.texts.ParseError.{ParseError}
use Rattle.roman_read.specs.declared.texts.ParseError.TheVariants.{NotJson, Memory}

-- the JSON value of the bytes, if they are UTF-8 and exactly one JSON value
abbrev pub json_of : List ℕ → Option Data
json_of bytes = if is_utf8 bytes then read bytes else None

-- a returned value is the JSON value of the bytes, and NotJson means that they aren't JSON
abbrev pub Parses : List ℕ → Result Value ParseError → Type 0
Parses bytes (Ok v) = json_of bytes ≡ Some (view v)
Parses bytes (Err NotJson) = json_of bytes ≡ None
Parses bytes (Err Memory) = Unit {0}

-- the numbers of the errors of parsing, in their order
abbrev pub parse_error_number : ParseError → ℕ
parse_error_number NotJson = 1
parse_error_number Memory = 2

-- the member of an object with this name
abbrev pub member_of : Data → List ℕ → Result Data Miss
member_of d name = if is_some (as_object d) then ok_or (get name d) Missing else Err Form

-- the bytes of a string
abbrev pub text_of : Data → Result (List ℕ) Miss
text_of d = ok_or (as_str d) Form

-- the items of an array
abbrev pub list_of : Data → Result Items Miss
list_of d = ok_or (as_array d) Form

-- a number from 0 to 2^64 - 1
abbrev pub number_of : Data → Result ℕ Miss
number_of d = ok_or (option_and_then as_u64 (as_number d)) Form

-- a truth value
abbrev pub truth_of : Data → Result Bool Miss
truth_of d = ok_or (as_bool d) Form

-- the code returns the value that the definition gives, seen through a view, or fails with the same miss
abbrev pub Finds : {X Y : Type 0} → (X → Y) → Result X Miss → Result Y Miss → Type 0
Finds view (Ok x) looked = looked ≡ Ok (view x)
Finds view (Err e) looked = looked ≡ Err e
