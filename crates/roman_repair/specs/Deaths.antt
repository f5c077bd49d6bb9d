-- The entries of a removal list after a service's death.
use Rattle.std.specs.Prelude.{◌≡◌, ℕ, ◌+◌, ◌*◌, ◌<◌, true, List, [], ◌++◌, map, drop, length}
use Rattle.std.specs.List.{filter, remove}
use Rattle.roman_model.specs.Lists.{IsIn, product_of}
use Rattle.roman_model.specs.System.{Sys, Seat}
use Rattle.roman_model.specs.Arena.{Entry}
use Rattle.roman_model.specs.Change.{Die, CanChange, may_go}
use Rattle.roman_model.specs.Numbers.{Sizes, sizes_of, sizes_without, count, pair_at}
use Rattle.roman_model.specs.NumberedChange.{number_entry_without, first_numbers}
use Rattle.roman_model.specs.declared.reason.Reason.{Reason}
use Rattle.roman_radix.specs.Rows.{lanes_of}
use Rattle.roman_lanes.specs.Rows.{is_on}
use Rattle.roman_joint.specs.NamedSys.{NamedSys, system_of}
use Rattle.roman_joint.specs.Rows.{lanes_in}
use Rattle.roman_order.specs.Board.{Board, as_entry, pairs_of, nodes_of, set_lanes}
use Rattle.roman_order.specs.Batches.{IsBatch, entries_at}
use Rattle.roman_order.specs.declared.batch.Batch.{Batch}
use Rattle.roman_relation.specs.declared.relation.Relation.{Relation}
use Rattle.roman_repair.specs.Repairs.{Repairs}
use Rattle.roman_repair.specs.declared.tally.Tally.{Tally}
use Rattle.roman_repair.specs.declared.dying.renaming.Leaver.{Leaver}

-- the entries in which seat k may leave its state behind, renamed
abbrev pub entries_left : Sizes → ℕ → Seat → List (Entry ℕ) → List (Entry ℕ)
entries_left n k seat W = map (number_entry_without k n) (filter (λ x. may_go k seat (pair_at n x.node)) W)

-- the list, followed by the first renamed entry of each pair that isn't listed
abbrev pub list_with : Sizes → ℕ → Seat → List (Entry ℕ) → List (Entry ℕ) → List (Entry ℕ)
list_with n k seat L W = L ++ first_numbers (nodes_of L) (entries_left n k seat W)

-- the entries for the pairs `first + i`, for each bit i of the word, all for one reason
abbrev pub entries_from : ℕ → ℕ → Reason → List (Entry ℕ)
entries_from first word reason = map (λ i. as_entry (first + i, reason)) (set_lanes word)

-- each group of `width` neighbouring pairs lies in one row and has one state of seat k, and the renamed pairs of a group lie in one row
pub record IsGroup (sizes : List ℕ) (k width : ℕ) : Type 0 where
  pub stride : (c : ℕ) × (product_of (drop (k + 1) sizes) ≡ c * width)
  pub lanes : (c : ℕ) × (lanes_of sizes ≡ c * width)
  pub left : (c : ℕ) × (lanes_of (remove sizes k) ≡ c * width)

-- the sizes of the joint without seat k
abbrev pub sizes_left : NamedSys → ℕ → Sizes
sizes_left joint k = sizes_without k (sizes_of (system_of joint))

-- the order has the shape of the system without the service that dies
pub record CanRename (joint : NamedSys) (leaver : Leaver) (order : Board) : Type 0 where
  pub seat : leaver.k < length joint.seats
  pub shaped : pairs_of order ≡ count (sizes_left joint leaver.k)
  pub lanes : (leaver.lanes ≡ order.lanes) × (order.lanes ≡ lanes_of (sizes_left joint leaver.k).seats)

-- the entries of the batch are in the system
pub record IsWithin (s : Sys) (e : Batch) : Type 0 where
  pub batch : IsBatch (lanes_in s) e
  pub nodes : (x : Entry ℕ) → IsIn x (entries_at (lanes_in s) e) → x.node < count (sizes_of s)

-- the pairs `first + i`, for each bit i of the word, are pairs of one group
pub record AreInGroup (n : Sizes) (k first word : ℕ) : Type 0 where
  pub seat : k < length n.seats
  pub inside : first < count n
  pub pair : (i : ℕ) → is_on word i ≡ true → first + i < count n
  pub group : (width : ℕ) × (j : ℕ) × IsGroup n.seats k width × (first ≡ j * width) × ((i : ℕ) → is_on word i ≡ true → i < width)

-- renaming the entries M after the list `new` has the same result as renaming the entries L after the list `old`
pub record Renames (s : Sys) (k : ℕ) (L M old new : List (Entry ℕ)) : Type 0 where
  pub list : (seat : Seat) → CanChange (Die k seat) s → list_with (sizes_of s) k seat new M ≡ list_with (sizes_of s) k seat old L

-- seat k of the joint, which is this seat, can die
abbrev pub CanDie : NamedSys → ℕ → Seat → Type 0
CanDie joint k seat = CanChange (Die k seat) (system_of joint)

-- the pairs `first + i`, for each bit i of the word, are pairs of one group, in which the leaver has one state
abbrev pub IsGroupOf : NamedSys → Leaver → ℕ → ℕ → Type 0
IsGroupOf joint leaver first word = AreInGroup (sizes_of (system_of joint)) leaver.k first word

-- all entries of L were renamed and appended
abbrev pub RenamesAll : NamedSys → Leaver → List (Entry ℕ) → Board → Board → Type 0
RenamesAll joint leaver L old new = Renames (system_of joint) leaver.k L [] old.list new.list

-- the second relation is the first one after the death of seat k and its repair, if the seat can die
abbrev pub RepairsDeath : ℕ → Relation → Relation → Tally → Type 0
RepairsDeath k old new tally = (seat : Seat) → CanDie old.joint k seat → Repairs (Die k seat) old new tally
