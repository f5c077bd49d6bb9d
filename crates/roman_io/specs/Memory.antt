-- The views that contracts have of the objects in memory.
use Rattle.std.specs.Prelude.{◌≡◌, ℕ, ◌/◌, ◌&&◌, ◌++◌, ◌⊎◌, Bool, true, not, min, List, length, map, take, drop, is_some, String, string_bytes}
use Rattle.std.specs.Global.{Global, Vec}
use Rattle.roman_io.specs.Calls.{Calls, is_failing}
use Rattle.roman_io.specs.Shelf.{Texts, text_at, shelf_text}

-- a name with its text
abbrev pub text_entry : String Global × Vec ℕ → List ℕ × List ℕ
text_entry file = (string_bytes file.0, file.1.items)

-- the names with their texts
abbrev pub texts_of : List (String Global × Vec ℕ) → Texts
texts_of files = map text_entry files

-- a shelf: its texts and its calls
pub record ShelfState : Type 0 where
  pub texts : Texts
  pub calls : Calls

-- the next fetch is to succeed, and there is a text of that name
abbrev pub can_fetch : ShelfState → List ℕ → Bool
can_fetch shelf name = not (is_failing shelf.calls) && is_some (text_at shelf.texts name)

-- how many bytes of a text a fetch from `at` on copies
abbrev pub fetched_count : Texts → List ℕ → ℕ → List ℕ → ℕ
fetched_count texts name at into = min (length (drop at (shelf_text texts name))) (length into)

-- a source: the bytes that it hasn't given yet, the most bytes that one call gives, and its calls
pub record SourceState : Type 0 where
  pub rest : List ℕ
  pub piece : ℕ
  pub calls : Calls

-- how many bytes a take moves
abbrev pub taken_count : SourceState → List ℕ → ℕ
taken_count source into = min (length source.rest) (min source.piece (length into))

-- a sink: the bytes that were written, and its calls
pub record SinkState : Type 0 where
  pub written : List ℕ
  pub calls : Calls

-- nothing was appended, or the put was to fail and appended the first half of the piece
abbrev pub AppendsHalf : SinkState → SinkState → List ℕ → Type 0
AppendsHalf old new piece =
    (new.written ≡ old.written) ⊎ ((is_failing old.calls ≡ true) × (new.written ≡ old.written ++ take (length piece / 2) piece))
