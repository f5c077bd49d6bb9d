-- Lists stored one after another in one list of items, cut at bounds.
use Rattle.std.specs.Prelude.{ℕ, ◌+◌, ◌<◌, ◌≤◌, List, [], ◌∷◌, length, slice_index, slice_range}

-- the pieces between consecutive bounds
abbrev pub pieces : List ℕ → List ℕ → List (List ℕ)
pieces [] items = []
pieces (b ∷ []) items = []
pieces (b ∷ c ∷ bounds) items = slice_range items b c ∷ pieces (c ∷ bounds) items

-- there is at least one bound, the bounds rise, and none is past the items
pub record IsCut (bounds items : List ℕ) : Type 0 where
  pub some : 0 < length bounds
  pub rising : (k : ℕ) → k + 1 < length bounds → slice_index bounds k ≤ slice_index bounds (k + 1)
  pub within : (k : ℕ) → k < length bounds → slice_index bounds k ≤ length items
