-- Orders as callers see them: the removal list, the waiting entries, and the tables beside them.
use Rattle.std.specs.Prelude.{◌≡◌, true, false, not, ℕ, ◌+◌, ◌*◌, ◌/◌, ◌%◌, ◌<◌, ◌==◌, Bool, List, [], ◌∷◌, ◌++◌, Option, map, flat_map, length, slice_index}
use Rattle.std.specs.List.{list_any, position_from, filter}
use Rattle.roman_model.specs.Lists.{below}
use Rattle.roman_model.specs.Arena.{Entry}
use Rattle.roman_model.specs.declared.reason.Reason.{Reason}
use Rattle.roman_lanes.specs.Rows.{is_on, HasLanes, AreRows}
use Rattle.roman_lanes.specs.Flags.{has_flag, SameFlagsBut}

-- an order: its room and its shape, the removal list, the waiting entries, and the tables beside them
pub record Board : Type 0 where
  -- the greatest number of pairs
  pub cap_pairs : ℕ
  -- the shape: the number of rows, and the number of pairs in a row
  pub rows : ℕ
  pub lanes : ℕ
  -- the removal list, and the waiting entries
  pub list : List (Entry ℕ)
  pub waiting : List (Entry ℕ)
  -- the number of pairs in a row in the shape of the waiting entries
  pub waiting_lanes : ℕ
  -- the marks: words of flags, with one flag for each number below the number of pairs
  pub marks : List ℕ
  -- the kept word of each row
  pub before : List ℕ
  -- the length of the list at the end of each of its levels
  pub levels : List ℕ

-- the number of pairs
abbrev pub pairs_of : Board → ℕ
pairs_of board = board.rows * board.lanes

-- the number is marked
abbrev pub is_marked : Board → ℕ → Bool
is_marked board p = has_flag board.marks p

-- no number below `end` is marked
abbrev pub NoneMarkedBelow : Board → ℕ → Type 0
NoneMarkedBelow board end = (p : ℕ) → p < end → is_marked board p ≡ false

-- the pair has a bit in the kept words
abbrev pub is_kept : Board → ℕ → Bool
is_kept board p = is_on (slice_index board.before (p / board.lanes)) (p % board.lanes)

-- the entry of a pair and a reason
abbrev pub as_entry : ℕ × Reason → Entry ℕ
as_entry x = record { node = x.0; reason = x.1 }

-- the pairs of the entries
abbrev pub nodes_of : List (Entry ℕ) → List ℕ
nodes_of L = map (λ x. x.node) L

-- some entry is that of the pair p
abbrev pub has_entry : List (Entry ℕ) → ℕ → Bool
has_entry L p = list_any (λ x. p == x.node) L

-- the new order differs from the old one at most in its list
abbrev pub ChangesOnlyList : Board → Board → Type 0
ChangesOnlyList old new = new ≡ record old { list = new.list }

-- the new order differs from the old one at most in its waiting entries
abbrev pub ChangesOnlyWaiting : Board → Board → Type 0
ChangesOnlyWaiting old new = new ≡ record old { waiting = new.waiting }

-- the new order differs from the old one at most in its marks
abbrev pub ChangesOnlyMarks : Board → Board → Type 0
ChangesOnlyMarks old new = new ≡ record old { marks = new.marks }

-- the new order differs from the old one at most in its kept words
abbrev pub ChangesOnlyBefore : Board → Board → Type 0
ChangesOnlyBefore old new = new ≡ record old { before = new.before }

-- the new order differs from the old one at most in its levels
abbrev pub ChangesOnlyLevels : Board → Board → Type 0
ChangesOnlyLevels old new = new ≡ record old { levels = new.levels }

-- the new order's last level ends at the end of the old order's list, and its other levels are those of the old order
abbrev pub EndsLevel : Board → Board → Type 0
EndsLevel old new = new.levels ≡ old.levels ++ length old.list ∷ []

-- no entry waits, and the order is unchanged
abbrev pub StaysIdle : Board → Board → Type 0
StaysIdle old new = (old.waiting ≡ []) × (new ≡ old)

-- the words have, row by row, the bits of the pairs that aren't listed
abbrev pub AreWordsOf : Board → List ℕ → Type 0
AreWordsOf board words = AreRows board.lanes (λ p. not (has_entry board.list p)) words

-- the word has the bits of the pairs of row x that aren't listed
abbrev pub IsWordOf : Board → ℕ → ℕ → Type 0
IsWordOf board x word = HasLanes board.lanes x (λ p. not (has_entry board.list p)) word

-- the word's lanes are lanes of a row of the order
abbrev pub HasLanesOf : Board → ℕ → Type 0
HasLanesOf board word = (lane : ℕ) → is_on word lane ≡ true → lane < board.lanes

-- no pair of row x at a lane of the word is listed
abbrev pub AreAliveAt : List (Entry ℕ) → ℕ → ℕ → ℕ → Type 0
AreAliveAt L lanes x word = (lane : ℕ) → is_on word lane ≡ true → has_entry L (x * lanes + lane) ≡ false

-- the place of the first entry of the pair p
abbrev pub place_in_list : List (Entry ℕ) → ℕ → Option ℕ
place_in_list L p = position_from (λ x. p == x.node) 0 L

-- the lanes whose bits are set, in rising order
unfoldable pub set_lanes : ℕ → List ℕ
set_lanes word = filter (is_on word) (below 64)

-- the entries of the pairs of a row whose lanes are in a word, for one reason
abbrev pub entries_in : ℕ → ℕ → ℕ → Reason → List (Entry ℕ)
entries_in lanes row word reason = map (λ lane. as_entry (row * lanes + lane, reason)) (set_lanes word)

-- the order with the entries of a row for the lanes of a word added at the end of its list
abbrev pub with_row : Board → ℕ → ℕ → Reason → Board
with_row board x word reason = record board { list = board.list ++ entries_in board.lanes x word reason }

-- the entries of the pairs of `rows` rows from row x on, with one word for each row, for one reason
abbrev pub entries_in_rows : ℕ → ℕ → ℕ → List ℕ → Reason → List (Entry ℕ)
entries_in_rows lanes x rows words reason = flat_map (λ i. entries_in lanes (x + i) (slice_index words i) reason) (below rows)

-- the order with the entries of neighbouring rows from row x on, with one word for each row, added at the end of its list
abbrev pub with_rows : Board → ℕ → List ℕ → Reason → Board
with_rows board x words reason = record board { list = board.list ++ entries_in_rows board.lanes x (length words) words reason }

-- the second order has one mark less than the first: that of p
pub record TakesMark (old new : Board) (p : ℕ) : Type 0 where
  pub was : is_marked old p ≡ true
  pub cleared : is_marked new p ≡ false
  pub others : SameFlagsBut p old.marks new.marks
