-- The bytes that a source has left, if it exposes them.
use Rattle.std.specs.Prelude.{◌≡◌, ℕ, ◌≤◌, ◌↔◌, List, [], ◌++◌, length, take, Option, None, Some, Result, Ok, Err}

-- the source gave these bytes: they were the first bytes of its rest, and the rest no longer has them
abbrev pub Gave : Option (List ℕ) → Option (List ℕ) → List ℕ → Type 0
Gave None None bytes = Unit {0}
Gave None (Some new) bytes = ⊥
Gave (Some old) None bytes = ⊥
Gave (Some old) (Some new) bytes = old ≡ bytes ++ new

-- a call that had room gave n bytes, and n is 0 exactly at the end of the rest
abbrev pub EndsAt : Option (List ℕ) → ℕ → Type 0
EndsAt None n = Unit {0}
EndsAt (Some rest) n = (n ≡ 0) ↔ (rest ≡ [])

-- Ok(n) moved the first n bytes of the rest into the piece, and an error moved none
abbrev pub Takes : {E : Type 0} → Option (List ℕ) → Option (List ℕ) → List ℕ → Result ℕ E → Type 0
Takes old new into (Ok n) = Gave old new (take n into)
Takes old new into (Err e) = Gave old new []

-- the source had exactly these bytes, if it exposes them
abbrev pub Had : Option (List ℕ) → List ℕ → Type 0
Had None bytes = Unit {0}
Had (Some rest) bytes = rest ≡ bytes

-- the source has no bytes left, if it exposes them
abbrev pub IsAtEnd : Option (List ℕ) → Type 0
IsAtEnd None = Unit {0}
IsAtEnd (Some rest) = rest ≡ []

-- the source gave at most `most` bytes
pub record GaveAtMost (most : ℕ) (before now : Option (List ℕ)) : Type 0 where
  pub taken : List ℕ
  pub gave : Gave before now taken
  pub few : length taken ≤ most
