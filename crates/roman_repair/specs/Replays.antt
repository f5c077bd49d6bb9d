-- The candidates of a replay, and the entries that it appends to a list.
use Rattle.std.specs.Prelude.{◌≡◌, ℕ, ◌<◌, ◌≤◌, Bool, true, List, ◌++◌, ◌*◌, flat_map, length, sum_by, IsTrue, IsFalse}
use Rattle.roman_model.specs.Lists.{IsIn, HasNoRepeats}
use Rattle.roman_model.specs.Arena.{Arena, Entry, replay_from}
use Rattle.roman_model.specs.NumberedChange.{grown_numbers}
use Rattle.roman_model.specs.declared.reason.Reason.{Reason}
use Rattle.roman_model.specs.declared.reason.Reason.TheVariants.{Final, Act}
use Rattle.roman_rules.specs.Probes.{readings_of_reason}
use Rattle.roman_order.specs.Board.{Board, nodes_of, has_entry}

-- whether the action of the reason is allowed at the node; true of a reason that names no action
abbrev pub is_possible : Arena ℕ → ℕ → Reason → Bool
is_possible A p Final = true
is_possible A p (Act a) = A.allows p a

-- entries that can be kept after those of a list: their nodes are distinct nodes of the arena, none of them is listed, and their actions are allowed there
pub record AreCandidates (A : Arena ℕ) (kept L : List (Entry ℕ)) : Type 0 where
  pub once : HasNoRepeats (nodes_of L)
  pub new : (x : Entry ℕ) → IsIn x L → IsFalse (has_entry kept x.node)
  pub nodes : (x : Entry ℕ) → IsIn x L → x.node < length A.nodes
  pub possible : (x : Entry ℕ) → IsIn x L → IsTrue (is_possible A x.node x.reason)

-- the list, followed by the candidates that the replay keeps
abbrev pub with_replay : Arena ℕ → List (Entry ℕ) → List (Entry ℕ) → List (Entry ℕ)
with_replay A kept L = kept ++ replay_from A (nodes_of kept) L

-- the number of seats that are probed for the reasons of all candidates
abbrev pub readings_of_entries : Arena ℕ → List (Entry ℕ) → ℕ
readings_of_entries A L = sum_by (λ x. readings_of_reason A x.node x.reason) L

-- the candidates for which the waiting entries stand: for each entry its pair with each of the states
abbrev pub candidates : ℕ → Board → List (Entry ℕ)
candidates states board = flat_map (grown_numbers states) board.waiting

-- a row consists of whole slices of so many states, and a row of so many lanes becomes whole rows if each lane becomes a slice
pub record AreSlices (row lanes states : ℕ) : Type 0 where
  pub few : lanes ≤ 64
  pub slices : (m : ℕ) × (row ≡ m * states) × (d : ℕ) × (lanes ≡ d * m)
