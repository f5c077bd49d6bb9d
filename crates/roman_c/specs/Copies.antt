-- Copies of bytes.
use Rattle.std.specs.Prelude.{◌≡◌, ℕ, List, length, min, take}

-- the bytes are at the beginning of `into`, as many as it has room for
abbrev pub IsBeginning : List ℕ → List ℕ → Type 0
IsBeginning bytes into = take (min (length bytes) (length into)) into ≡ take (length into) bytes

-- the bytes are at the beginning of `into`, as many as it has room for, and their length is returned
abbrev pub CopiesAll : List ℕ → List ℕ → ℕ → Type 0
CopiesAll bytes into len = IsBeginning bytes into × (len ≡ length bytes)
