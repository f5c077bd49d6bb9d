-- Sets of numbers as words: a row is up to 64 neighbouring numbers, with one word for each row and one bit for each number.
use Rattle.std.specs.Prelude.{◌≡◌, ℕ, ◌+◌, ◌*◌, ◌<◌, ◌≤◌, ◌==◌, ◌&&◌, Bool, false, not, List, length, slice_index}
use Rattle.std.specs.Int.{bit_at}

-- the bit of a lane is set
unfoldable pub is_on : ℕ → ℕ → Bool
is_on word lane = bit_at word lane == 1

-- the bit of each lane of the row is set exactly when its number passes the test, and no bit is set past the lanes
pub record HasLanes (lanes row : ℕ) (test : ℕ → Bool) (word : ℕ) : Type 0 where
  pub each : (lane : ℕ) → lane < lanes → is_on word lane ≡ test (row * lanes + lane)
  pub rest : (lane : ℕ) → lanes ≤ lane → is_on word lane ≡ false

-- in each word, exactly the bits of the numbers of its row that pass the test are set
pub record AreRows (lanes : ℕ) (test : ℕ → Bool) (words : List ℕ) : Type 0 where
  pub each : (row : ℕ) → row < length words → HasLanes lanes row test (slice_index words row)

-- in the words of `many` rows from row x on, exactly the set lanes whose numbers pass the test stay set, and no lane is newly set; the other words stay
pub record Keeps (lanes x many : ℕ) (test : ℕ → Bool) (old new : List ℕ) : Type 0 where
  pub each : (i lane : ℕ) → i < many → lane < lanes → is_on (slice_index new i) lane ≡ (is_on (slice_index old i) lane && test ((x + i) * lanes + lane))
  pub others : (i : ℕ) → many ≤ i → slice_index new i ≡ slice_index old i
  pub none : (i lane : ℕ) → is_on (slice_index old i) lane ≡ false → is_on (slice_index new i) lane ≡ false

-- the new word is the old one without the lanes of another word
abbrev pub LosesLanes : ℕ → ℕ → ℕ → Type 0
LosesLanes other old new = (lane : ℕ) → is_on new lane ≡ (is_on old lane && not (is_on other lane))
