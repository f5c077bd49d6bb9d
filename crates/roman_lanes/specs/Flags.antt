-- Words of flags: one flag for each number, 64 flags to a word.
use Rattle.std.specs.Prelude.{◌≡◌, ◌≢◌, ℕ, ◌/◌, ◌%◌, ◌==◌, Bool, List, slice_index}
use Rattle.std.specs.Int.{bit_at}

-- flag p is set
unfoldable pub has_flag : List ℕ → ℕ → Bool
has_flag words p = bit_at (slice_index words (p / 64)) (p % 64) == 1

-- all flags but flag p are as before
abbrev pub SameFlagsBut : ℕ → List ℕ → List ℕ → Type 0
SameFlagsBut p old new = (q : ℕ) → q ≢ p → has_flag new q ≡ has_flag old q
