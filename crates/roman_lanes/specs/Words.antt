-- Words that are 0, and slices of words of which some are updated.
use Rattle.std.specs.Prelude.{◌≡◌, ℕ, ◌<◌, ◌≤◌, ◌⊎◌, List, length, slice_index}

-- all words are 0
abbrev pub AreClear : List ℕ → Type 0
AreClear words = (i : ℕ) → slice_index words i ≡ 0

-- the update relates the old and new words from place `from` up to place `until`, without the last, and the other words stay
pub record UpdatesBetween (makes : ℕ → ℕ → ℕ → Type 0) (from until : ℕ) (old new : List ℕ) : Type 0 where
  pub below : (i : ℕ) → i < from → slice_index new i ≡ slice_index old i
  pub each : (i : ℕ) → from ≤ i → i < until → makes i (slice_index old i) (slice_index new i)
  pub above : (i : ℕ) → until ≤ i → slice_index new i ≡ slice_index old i

-- the words from place `from` up to place `until`, without the last, are 0
abbrev pub AreClearFrom : List ℕ → ℕ → ℕ → Type 0
AreClearFrom words from until = (i : ℕ) → from ≤ i → i < until → slice_index words i ≡ 0

-- the two slices have the same words from place `from` up to place `until`, without the last
abbrev pub SameWithin : ℕ → ℕ → List ℕ → List ℕ → Type 0
SameWithin from until old new = (i : ℕ) → from ≤ i → i < until → slice_index new i ≡ slice_index old i

-- the two slices have the same words before place `from`, and from place `until` on
abbrev pub SameOutside : ℕ → ℕ → List ℕ → List ℕ → Type 0
SameOutside from until old new = (i : ℕ) → (i < from) ⊎ (until ≤ i) → slice_index new i ≡ slice_index old i

-- the update relates each word to its new value
abbrev pub UpdatesEach : (ℕ → ℕ → ℕ → Type 0) → List ℕ → List ℕ → Type 0
UpdatesEach makes old new = (i : ℕ) → i < length old → makes i (slice_index old i) (slice_index new i)
