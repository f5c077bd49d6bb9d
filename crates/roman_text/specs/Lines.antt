-- The lines of a stream, from the bytes that arrived so far.
use Rattle.std.specs.Prelude.{◌≡◌, ℕ, Bool, ◌==◌, List, [], ◌∷◌, ◌++◌, take, Option, None, Some, if◌then◌else◌}
use Rattle.std.specs.Borrow.{Bor}
use Rattle.roman_model.specs.System.{has}
use Rattle.roman_model.specs.Lines.{text_of_lines, IsLine, AreLines}

-- the byte that ends a line
abbrev pub is_newline : ℕ → Bool
is_newline byte = byte == 10

-- the bytes after the last newline
unfoldable pub unfinished : List ℕ → List ℕ
unfinished [] = []
unfinished (byte ∷ bytes) = if has (byte ∷ bytes) 10 then unfinished bytes else byte ∷ bytes

-- a line with its newline
abbrev pub with_newline : List ℕ → List ℕ
with_newline line = line ++ 10 ∷ []

-- the bytes are these lines, each with its newline, followed by a rest without a newline
pub record IsSplit (bytes : List ℕ) (lines : List (List ℕ)) (rest : List ℕ) : Type 0 where
  pub whole : bytes ≡ text_of_lines lines ++ rest
  pub each : AreLines lines
  pub last : IsLine rest

-- the first line of some bytes and the bytes after its newline, or none if the bytes have no newline
abbrev pub IsFirstLine : List ℕ → Option (Bor (List ℕ) × Bor (List ℕ)) → Type 0
IsFirstLine bytes None = IsLine bytes
IsFirstLine bytes (Some first) = IsLine first.0.now × (bytes ≡ first.0.now ++ 10 ∷ first.1.now)

-- the part of a line that decides its shape: one byte more than the greatest length of a line
unfoldable pub line_head : List ℕ → List ℕ
line_head line = take 257 line
