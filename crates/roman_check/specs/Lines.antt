-- The line that a checker buffers, and patterns of lines.
use Rattle.std.specs.Prelude.{◌≡◌, ℕ, ◌+◌, ◌*◌, ◌<◌, ◌≤◌, List, length, take, decimal}
use Rattle.roman_model.specs.Lists.{IsIn}
use Rattle.roman_model.specs.Certificate.{reasons}
use Rattle.roman_check.specs.declared.line.Line.{Line}
use Rattle.roman_check.specs.declared.line.TheConstants.{ROOM}
use Rattle.roman_check.specs.declared.pattern.Pattern.{Pattern}
use Rattle.roman_check.specs.declared.pattern.Shape.{Shape}
use Rattle.roman_check.specs.Readings.{HasReason}

-- the line's bytes so far are these, or the line is known to be too long
pub record Holds (line : Line) (bytes : List ℕ) : Type 0 where
  pub fits : length bytes ≤ ROOM → (line.len ≡ length bytes) × (take (length bytes) line.bytes ≡ bytes)
  pub over : ROOM < length bytes → line.len ≡ ROOM + 1

-- the text begins with a number, two bytes, a space, a reason and a newline, divided by the shape
pub record IsPattern (text : List ℕ) (s : Shape) : Type 0 where
  pub front : ℕ
  pub some : 0 < front
  pub base : s.base ≡ front * 100
  pub small : s.base < 4294967296
  pub digits : decimal front ≡ take s.place text
  pub rest : HasReason text s.reason (s.place + 2) s.len
  pub short : s.len < 16

-- the text of the pattern is divided by its shape
abbrev pub HasForm : Pattern → Type 0
HasForm pattern = IsPattern pattern.text pattern.shape

-- the reason of the pattern is clause 2 or one of so many actions
abbrev pub HasReasonOf : ℕ → Pattern → Type 0
HasReasonOf actions pattern = IsIn pattern.shape.reason (reasons actions)

-- the pattern is of entries with a reason of so many actions
pub record IsPatternFor (actions : ℕ) (pattern : Pattern) : Type 0 where
  pub form : HasForm pattern
  pub reason : HasReasonOf actions pattern
