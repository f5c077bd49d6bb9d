-- The event as which a line is read, by its words.
use Rattle.std.specs.Prelude.{◌≡◌, ℕ, ◌<◌, ◌≤◌, ◌⊎◌, List, [], ◌∷◌, length, nat_eq, codes, Result, Ok, Err, IsTrue}
use Rattle.std.specs.List.{starts_with}
use Rattle.std.specs.Str.Lines.{strip_carriage_return}
use Rattle.roman_text.specs.Shapes.{LineShape, nothing, words_of, spelling, shape_of}
use Rattle.roman_text.specs.declared.errors.LineError.{LineError}

-- the first word begins with `#`
abbrev pub IsComment : List (List ℕ) → Type 0
IsComment words = (word : List ℕ) × (more : List (List ℕ)) × (words ≡ word ∷ more) × IsTrue (starts_with nat_eq word (codes "#"))

-- a line is read as an event if it has the event's words, as no event if it has no words or is a comment, and as an error if
-- neither holds or it has more than 256 bytes
abbrev pub Reads : List ℕ → Result LineShape LineError → Type 0
Reads line (Err why) =
    (256 < length line)
    ⊎ ((IsComment (words_of (strip_carriage_return line)) → ⊥) × ((event : LineShape) → words_of (strip_carriage_return line) ≡ spelling event → ⊥))
Reads line (Ok nothing) = (length line ≤ 256) × ((words_of (strip_carriage_return line) ≡ []) ⊎ IsComment (words_of (strip_carriage_return line)))
Reads line (Ok event) = (length line ≤ 256) × (words_of (strip_carriage_return line) ≡ spelling event)

-- each line is read as its shape states
abbrev pub LinesAreRead : Type 0
LinesAreRead = (line : List ℕ) → Reads line (shape_of line)
