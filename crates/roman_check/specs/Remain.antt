-- Tables of the pairs that remain, and pairs that are missing from a list.
use Rattle.std.specs.Prelude.{◌≡◌, ◌≢◌, ℕ, ◌*◌, ◌<◌, ◌==◌, Bool, false, not, ◌&&◌, ◌||◌, List, length, count_by, IsFalse}
use Rattle.std.specs.List.{list_any}
use Rattle.roman_model.specs.Lists.{below}
use Rattle.roman_model.specs.Arena.{Arena, Entry, is_listed, is_justified}
use Rattle.roman_model.specs.Certificate.{could_be_listed, reasons}
use Rattle.roman_lanes.specs.Rows.{is_on, AreRows}
use Rattle.roman_rules.specs.declared.rules.Rules.{Ghosts as RulesView}
use Rattle.roman_check.specs.declared.table.Remaining.{Remaining}

-- the table has the bits of the pairs that aren't gone, and their number
pub record Remain (pairs : ℕ) (gone : ℕ → Bool) (table : Remaining) : Type 0 where
  pub rows : AreRows table.lanes (λ p. not (gone p)) table.words.items
  pub counted : table.count ≡ count_by (λ p. not (gone p)) (below pairs)

-- the pair that remained is taken out, and the table keeps its rows
pub record Removes (old new : Remaining) (p : ℕ) : Type 0 where
  pub removed : (pairs : ℕ) (gone more : ℕ → Bool) → Remain pairs gone old → p < pairs → IsFalse (gone p) → ((q : ℕ) → more q ≡ (gone q || q == p)) → Remain pairs more new
  pub lanes : new.lanes ≡ old.lanes
  pub rows : length new.words.items ≡ length old.words.items

-- the new word is the old one with the bit of the lane cleared
pub record Clears (old new lane : ℕ) : Type 0 where
  pub own : is_on new lane ≡ false
  pub others : (j : ℕ) → j < 64 → j ≢ lane → is_on new j ≡ is_on old j
  pub within : (j : ℕ) → is_on old j ≡ false → is_on new j ≡ false

-- the pair isn't listed, and clause 2 or one of the first actions is a reason there
abbrev pub could_be_by : Arena ℕ → List (Entry ℕ) → ℕ → ℕ → Bool
could_be_by A L actions p = not (is_listed A L p) && list_any (is_justified A (is_listed A L) p) (reasons actions)

-- the words have one bit for each pair of the system
abbrev pub HaveBits : {J R : Type 0} → RulesView J R → J → List ℕ → Type 0
HaveBits J joint words = length words * J.lanes joint ≡ length (J.arena joint).nodes

-- no pair before this number is missing from a list whose unlisted pairs have their bits in the words
pub record NoneMissing (A : Arena ℕ) (lanes : ℕ) (words : List ℕ) (bound : ℕ) : Type 0 where
  pub none : (L : List (Entry ℕ)) → AreRows lanes (λ p. not (is_listed A L p)) words → (p : ℕ) → p < bound → could_be_listed A L p ≡ false
