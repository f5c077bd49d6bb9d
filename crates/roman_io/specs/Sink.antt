-- The bytes that were written to a sink, if it exposes them.
use Rattle.std.specs.Prelude.{◌≡◌, ℕ, List, ◌++◌, take, Option, None, Some, Result, Ok, Err}

-- the whole piece was appended
abbrev pub Wrote : Option (List ℕ) → Option (List ℕ) → List ℕ → Type 0
Wrote None None piece = Unit {0}
Wrote None (Some new) piece = ⊥
Wrote (Some old) None piece = ⊥
Wrote (Some old) (Some new) piece = new ≡ old ++ piece

-- some prefix of the piece was appended
abbrev pub WrotePrefix : Option (List ℕ) → Option (List ℕ) → List ℕ → Type 0
WrotePrefix None None piece = Unit {0}
WrotePrefix None (Some new) piece = ⊥
WrotePrefix (Some old) None piece = ⊥
WrotePrefix (Some old) (Some new) piece = (n : ℕ) × (new ≡ old ++ take n piece)

-- Ok appended the whole piece, and an error appended a prefix of it
abbrev pub Puts : {T E : Type 0} → Option (List ℕ) → Option (List ℕ) → List ℕ → Result T E → Type 0
Puts old new piece (Ok x) = Wrote old new piece
Puts old new piece (Err e) = WrotePrefix old new piece
