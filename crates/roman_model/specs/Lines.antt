-- Lines of texts.
use Rattle.std.specs.Prelude.{ℕ, ◌==◌, List, [], ◌∷◌, ◌++◌, IsFalse, if◌then◌else◌}
use Rattle.std.specs.List.{flat_map}
use Rattle.roman_model.specs.Lists.{IsIn}
use Rattle.roman_model.specs.System.{has}

-- puts the byte before the first line, or makes it the only line
abbrev pub onto_first_line : ℕ → List (List ℕ) → List (List ℕ)
onto_first_line byte [] = (byte ∷ []) ∷ []
onto_first_line byte (line ∷ lines) = (byte ∷ line) ∷ lines

-- the lines of a text: each ends at its newline, which isn't part of it, or at the end of the bytes
abbrev pub lines : List ℕ → List (List ℕ)
lines [] = []
lines (byte ∷ bytes) = if byte == 10 then [] ∷ lines bytes else onto_first_line byte (lines bytes)

-- puts the byte before the first line, if there is one
abbrev pub onto_ended_line : ℕ → List (List ℕ) → List (List ℕ)
onto_ended_line byte [] = []
onto_ended_line byte (line ∷ lines) = (byte ∷ line) ∷ lines

-- the lines of a text that end with a newline
abbrev pub ended_lines : List ℕ → List (List ℕ)
ended_lines [] = []
ended_lines (byte ∷ bytes) = if byte == 10 then [] ∷ ended_lines bytes else onto_ended_line byte (ended_lines bytes)

-- the text of the lines, each with its newline
abbrev pub text_of_lines : List (List ℕ) → List ℕ
text_of_lines lines = flat_map (λ line. line ++ 10 ∷ []) lines

-- the line has no newline
abbrev pub IsLine : List ℕ → Type 0
IsLine line = IsFalse (has line 10)

-- no line has a newline
abbrev pub AreLines : List (List ℕ) → Type 0
AreLines ls = (line : List ℕ) → IsIn line ls → IsLine line
