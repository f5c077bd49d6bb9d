-- Removal lists that extend others, until nothing can be added.
use Rattle.std.specs.Prelude.{◌≡◌, ℕ, ◌-◌, ◌<◌, ◌≤◌, ◌⊎◌, List, length, take, slice_get, slice_index, Some, IsTrue, IsFalse}
use Rattle.roman_model.specs.Lists.{IsIn}
use Rattle.roman_model.specs.Arena.{Arena, Entry, is_listed, is_justified, loses, IsOrder}
use Rattle.roman_model.specs.declared.reason.Reason.{Reason}
use Rattle.roman_order.specs.Board.{Board}

-- the second list begins with the first
abbrev pub Begins : List (Entry ℕ) → List (Entry ℕ) → Type 0
Begins L M = take (length L) M ≡ L

-- the old order with the list, the levels, the marks and the kept words of the new one
abbrev pub with_list_of : Board → Board → Board
with_list_of old new = record old { list = new.list; marks = new.marks; before = new.before; levels = new.levels }

-- the new order has a removal list that begins with the old one's, and otherwise only its marks and kept words have changed
pub record SettlesOn (A : Arena ℕ) (old new : Board) : Type 0 where
  pub valid : IsOrder A new.list
  pub begins : Begins old.list new.list
  pub rest : new ≡ record old { list = new.list; marks = new.marks; before = new.before }

-- a removal list of nodes to which no reason adds a node
pub record IsSettled (A : Arena ℕ) (L : List (Entry ℕ)) : Type 0 where
  pub nodes : (x : Entry ℕ) → IsIn x L → x.node < length A.nodes
  pub order : IsOrder A L
  pub no_more : (p : ℕ) → p < length A.nodes → IsFalse (is_listed A L p) → (reason : Reason) → IsFalse (is_justified A (is_listed A L) p reason)

-- the list has exactly the nodes at which the opponent wins within n requests
pub record HoldsLost (A : Arena ℕ) (n : ℕ) (L : List (Entry ℕ)) : Type 0 where
  pub each : (p : ℕ) → p < length A.nodes → is_listed A L p ≡ loses A n p

-- the entries rise by depth: if the opponent wins at an entry's node within n requests, it does so at the nodes of all earlier entries
pub record RisesByDepth (A : Arena ℕ) (L : List (Entry ℕ)) : Type 0 where
  pub each : (n i j : ℕ) (x y : Entry ℕ) → i < j → slice_get L i ≡ Some x → slice_get L j ≡ Some y → IsTrue (loses A n y.node) → IsTrue (loses A n x.node)

-- the list in levels: up to the end of level n it has exactly the nodes at which the opponent wins within n requests,
-- and the last level ends with the list
pub record AreLevels (A : Arena ℕ) (levels : List ℕ) (L : List (Entry ℕ)) : Type 0 where
  pub some : 0 < length levels
  pub within : (n : ℕ) → n < length levels → slice_index levels n ≤ length L
  pub each : (n : ℕ) → n < length levels → HoldsLost A n (take (slice_index levels n) L)
  pub last : slice_index levels (length levels - 1) ≡ length L

-- the node p meets clause 2, or it is listed
abbrev pub IsFineOrListed : Arena ℕ → List (Entry ℕ) → ℕ → Type 0
IsFineOrListed A L p = IsFalse (is_listed A L p) → IsTrue (A.fine p)

-- each node that the second list adds to the first doesn't meet clause 2
abbrev pub AddsUnfine : Arena ℕ → List (Entry ℕ) → List (Entry ℕ) → Type 0
AddsUnfine A L M = (p : ℕ) → IsTrue (is_listed A M p) → IsTrue (is_listed A L p) ⊎ IsFalse (A.fine p)
