-- Reading a text as a value.
use Rattle.std.specs.Prelude.{◌≡◌, ◌≢◌, ℕ, ◌+◌, ◌-◌, ◌<◌, List, Option, None, Some, length, take, drop, slice_index, decimal}
use Rattle.roman_model.specs.Lists.{IsIn}
use Rattle.roman_model.specs.Arena.{Entry}
use Rattle.roman_model.specs.declared.reason.Reason.{Reason}
use Rattle.roman_model.specs.Certificate.{reason_text, reasons}

-- the entry of a pair and a reason
abbrev pub entry_with : ℕ × Reason → Entry ℕ
entry_with x = record { node = x.0; reason = x.1 }

-- the result is the element of the list that has this text, or None if no element has it
abbrev pub IsParse : {X : Type 0} → List X → (X → List ℕ) → List ℕ → Option X → Type 0
IsParse {X} xs text_of line None = (x : X) → IsIn x xs → text_of x ≢ line
IsParse xs text_of line (Some x) = IsIn x xs × (text_of x ≡ line)

-- the result is the element of the list that has the line as its text, or None if no element has it
pub record ReadsOff {X : Type 0} (xs : List X) (text_of : X → List ℕ) (line : List ℕ) (answer : Option X) : Type 0 where
  pub is : IsParse xs text_of line answer

-- a newline is at this place
pub record IsEndedAt (bytes : List ℕ) (end : ℕ) : Type 0 where
  pub within : end < length bytes
  pub newline : slice_index bytes end ≡ 10

-- a space is at the first place, followed by the reason's text up to a newline at the second
pub record HasReason (bytes : List ℕ) (reason : Reason) (space end : ℕ) : Type 0 where
  pub stop : slice_index bytes space ≡ 32
  pub before : space < end
  pub text : reason_text reason ≡ take (end - (space + 1)) (drop (space + 1) bytes)
  pub ended : IsEndedAt bytes end

-- the bytes begin with the pair's number, a space, the reason's text and a newline, with the space and the newline at these places
pub record HasParts (bytes : List ℕ) (pair : ℕ) (reason : Reason) (space end : ℕ) : Type 0 where
  pub number : decimal pair ≡ take space bytes
  pub rest : HasReason bytes reason space end

-- the bytes begin with the line of this entry, which is one of the possible ones; its newline is at this place
pub record HasEntry (pairs actions : ℕ) (bytes : List ℕ) (end : ℕ) (x : Entry ℕ) : Type 0 where
  pub space : ℕ
  pub parts : HasParts bytes x.node x.reason space end
  pub inside : x.node < pairs
  pub given : IsIn x.reason (reasons actions)

-- the bytes begin with the line of the pair and the reason of the triple; its third part is the place of the newline
abbrev pub BeginsWith : ℕ → ℕ → List ℕ → ℕ × Reason × ℕ → Type 0
BeginsWith pairs actions bytes = λ line. HasEntry pairs actions bytes line.2 (entry_with (line.0, line.1))
