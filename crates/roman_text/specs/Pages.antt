-- The bytes that a page has taken: some are written, and the rest are held.
use Rattle.std.specs.Prelude.{◌≡◌, ℕ, List, [], ◌++◌, Option, Result, Ok, Err}
use Rattle.roman_io.specs.Sink.{Wrote, WrotePrefix}
use Rattle.roman_io.specs.declared.sink.Sink.{Ghosts as SinkView}

-- a prefix of the text was written, and the page holds the rest
pub record Gathered (old new : Option (List ℕ)) (held text : List ℕ) : Type 0 where
  pub prefix : List ℕ
  pub wrote : Wrote old new prefix
  pub rest : text ≡ prefix ++ held

-- on success a prefix of the text was written, and the page holds the rest; on failure a prefix was written, and the page is empty
abbrev pub Gathers : {T E : Type 0} → Option (List ℕ) → Option (List ℕ) → List ℕ → List ℕ → Result T E → Type 0
Gathers old new held text (Ok x) = Gathered old new held text
Gathers old new held text (Err e) = WrotePrefix old new text × (held ≡ [])

-- the page held `before` and then took the text, with these results, in words for contracts at a bound `O: Sink`
abbrev pub Pushes : {X T E : Type 0} → SinkView X → X → X → List ℕ → List ℕ → List ℕ → Result T E → Type 0
Pushes O old new before after text result = Gathers (O.written old) (O.written new) after (before ++ text) result
