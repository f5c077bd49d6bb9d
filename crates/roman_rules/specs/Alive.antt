-- The words of the pairs that aren't gone.
use Rattle.std.specs.Prelude.{◌≡◌, ℕ, ◌*◌, Bool, not, List, length}
use Rattle.roman_model.specs.Arena.{Arena}
use Rattle.roman_lanes.specs.Rows.{AreRows}

-- in each word, exactly the bits of the pairs of its row that aren't gone are set
abbrev pub AreAliveRows : ℕ → (ℕ → Bool) → List ℕ → Type 0
AreAliveRows lanes gone words = AreRows lanes (λ q. not (gone q)) words

-- there is a word for each row of the arena's nodes
abbrev pub HasAllRows : Arena ℕ → ℕ → List ℕ → Type 0
HasAllRows A lanes words = length words * lanes ≡ length A.nodes
