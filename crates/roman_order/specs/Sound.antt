-- How the tables of an order represent its board.
use Rattle.std.specs.Prelude.{◌≡◌, ℕ, ◌+◌, ◌-◌, ◌*◌, ◌/◌, ◌^◌, ◌<◌, ◌≤◌, ◌==◌, true, List, [], ◌∷◌, ◌++◌, drop, length, unwrap_or, slice_index, slice_set, vec_capacity}
use Rattle.std.specs.List.{IsDistinct, AllByRecursion}
use Rattle.roman_model.specs.Arena.{Entry}
use Rattle.roman_lanes.specs.Rows.{is_on}
use Rattle.roman_model.specs.Lists.{below}
use Rattle.roman_order.specs.Board.{AreWordsOf, Board, set_lanes, nodes_of, has_entry, place_in_list}
use Rattle.roman_order.specs.Batches.{IsBatch, entries_of}
use Rattle.roman_order.specs.declared.batch.Batch.{Batch}
use Rattle.roman_order.specs.declared.order.Order.TheInside.{Inside}

-- the removal list
abbrev pub removal_list : Inside → List (Entry ℕ)
removal_list a = entries_of a.lanes a.batches.items

-- the waiting entries
abbrev pub waiting_list : Inside → List (Entry ℕ)
waiting_list a = entries_of a.waiting_lanes (drop a.next a.waiting.items)

-- the board that the tables represent
abbrev pub board_of : Inside → Board
board_of a = record {
  cap_pairs = a.room;
  rows = a.rows;
  lanes = a.lanes;
  list = removal_list a;
  waiting = waiting_list a;
  waiting_lanes = a.waiting_lanes;
  marks = a.marks.items;
  before = a.before.items;
  levels = a.levels.items;
}

-- the place of the pair in the list, or the greatest stamp if it isn't listed
abbrev pub stamp_of : List (Entry ℕ) → ℕ → ℕ
stamp_of L p = unwrap_or (place_in_list L p) (2 ^ 32 - 1)

-- the pairs of the list are distinct and in range
pub record IsPlaced (pairs : ℕ) (L : List (Entry ℕ)) : Type 0 where
  pub apart : IsDistinct (λ x y. x == y) (nodes_of L)
  pub in_range : (p : ℕ) → has_entry L p ≡ true → p < pairs

-- each stamp in the table is the place of its pair in the list
abbrev pub AreStamps : List (Entry ℕ) → List ℕ → Type 0
AreStamps L stamps = (p : ℕ) → p < length stamps → slice_index stamps p ≡ stamp_of L p

-- the table after i, i + 1 and so on are written at the given places
abbrev pub with_stamps : ℕ → List ℕ → List ℕ → List ℕ
with_stamps i [] stamps = stamps
with_stamps i (p ∷ ps) stamps = with_stamps (i + 1) ps (slice_set stamps p i)

-- the entries for the lanes of a word lie in the table, and their places from `place` on are numbers of 32 bits
pub record CanWriteStamps (stamps : List ℕ) (first word place : ℕ) : Type 0 where
  pub within : (lane : ℕ) → is_on word lane ≡ true → first + lane < length stamps
  pub few : length stamps < 2 ^ 32
  pub fits : place + length (set_lanes word) < 2 ^ 32

-- the place of each batch's first entry, if n entries come before the first batch
abbrev pub firsts_of : ℕ → List Batch → List ℕ
firsts_of n [] = []
firsts_of n (e ∷ es) = n ∷ firsts_of (n + length (set_lanes e.lanes)) es

-- the places of the first entries of so many batches: first those that equal their numbers, which the table leaves out, then those of the table
abbrev pub places_of : ℕ → List ℕ → List ℕ
places_of many later = below (many - length later) ++ later

-- the place of the first entry of batch j
abbrev pub batch_start : ℕ → List ℕ → ℕ → ℕ
batch_start many later j = slice_index (places_of many later) j

-- batch j begins at place `start` of the list, and is the last batch that begins at place i or before
pub record IsLastFrom (many : ℕ) (later : List ℕ) (i j start : ℕ) : Type 0 where
  pub within : j < many
  pub first : start ≡ batch_start many later j
  pub from : start ≤ i
  pub to : j + 1 < many → i < batch_start many later (j + 1)

-- each batch has entries, and the count and the places are right
pub record AreCounted (lanes n : ℕ) (places : List ℕ) (es : List Batch) : Type 0 where
  pub each : AllByRecursion (IsBatch lanes) es
  pub count : n ≡ length (entries_of lanes es)
  pub firsts : places ≡ firsts_of 0 es

-- each waiting batch has entries, and their pairs are numbers of 32 bits
pub record CanWait (lanes : ℕ) (es : List Batch) : Type 0 where
  pub each : AllByRecursion (IsBatch lanes) es
  pub in_range : (p : ℕ) → has_entry (entries_of lanes es) p ≡ true → p < 2 ^ 32

-- the tables are as long as the shape needs, and have room for the greatest number of pairs
pub record IsSized (a : Inside) : Type 0 where
  pub few_lanes : (0 < a.lanes) × (a.lanes ≤ 64)
  pub room : a.rows * a.lanes ≤ a.room
  pub few : a.room < 2 ^ 32
  pub words_long : length a.words.items ≡ a.rows
  pub before_long : length a.before.items ≡ a.rows
  pub marks_long : length a.marks.items ≡ (a.rows * a.lanes + 63) / 64
  pub next_in : a.next ≤ length a.waiting.items
  pub batches_room : a.room ≤ vec_capacity a.batches
  pub firsts_room : a.room ≤ vec_capacity a.firsts
  pub waiting_room : a.room ≤ vec_capacity a.waiting
  pub stamps_room : a.room ≤ vec_capacity a.stamps
  pub words_room : a.room ≤ vec_capacity a.words
  pub before_room : a.room ≤ vec_capacity a.before
  pub marks_room : a.room ≤ 64 * vec_capacity a.marks
  pub levels_room : a.room < vec_capacity a.levels
  pub few_levels : length a.levels.items ≤ a.room + 1

-- the tables agree with the list, and have the right sizes
pub record IsSound (a : Inside) : Type 0 where
  pub placed : IsPlaced (a.rows * a.lanes) (removal_list a)
  pub counted : AreCounted a.lanes a.count (places_of (length a.batches.items) a.firsts.items) a.batches.items
  pub waits : CanWait a.waiting_lanes (drop a.next a.waiting.items)
  pub stamped : AreStamps (removal_list a) a.stamps.items
  pub alive : AreWordsOf (board_of a) a.words.items
  pub sized : IsSized a
