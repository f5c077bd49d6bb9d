-- The entries of an explanation, one after the other.
use Rattle.roman_cert.proofs.Common.{slice_get, IsFalse, IsTrue, List, Some, [], length, sym, true, ℕ, ◌<◌, ◌≡◌, Act, Final, Board, has_entry, is_marked, pairs_of, Entry, IsOrder, IsNamedSys, NamedSys, system_of, IsReasonOf, Reason, arena_of, cond-false, cond-true, count, sizes_of, entry_text, marked_text, get_in, numbered_is_arena, listed_numbers}
use Rattle.roman_cert.proofs.Answering.{entry_allowed}

-- An entry

-- the entry at a place is of a pair of the system
pub entry_pair : (n : NamedSys) (board : Board) (i : ℕ) (x : Entry ℕ) → pairs_of board ≡ length (arena_of n).nodes → ((p : ℕ) → has_entry board.list p ≡ true → p < pairs_of board) → slice_get board.list i ≡ Some x →
    x.node < count (sizes_of (system_of n))
entry_pair n board i x shaped in_range e = listed_numbers (system_of n) board shaped in_range x (get_in board.list i x e)

-- the reason of the entry at a place names an action of the system
pub entry_reason : (n : NamedSys) (L : List (Entry ℕ)) (i : ℕ) (x : Entry ℕ) → IsNamedSys n → IsOrder (arena_of n) L → slice_get L i ≡ Some x → IsReasonOf (arena_of n) x.reason
entry_reason n L i x known order e = by_reason x.reason e
  where
    by_reason : (r : Reason) → slice_get L i ≡ Some (record { node = x.node; reason = r }) → IsReasonOf (arena_of n) r
    by_reason Final f = tt
    by_reason (Act a) f = (numbered_is_arena (system_of n) known.system).allowed x.node a (entry_allowed (arena_of n) L i x.node a order f)

-- The marked entries

-- an entry whose pair is marked has its lines, and another has none
pub marked_said : (n : NamedSys) (board : Board) (x : Entry ℕ) → IsTrue (is_marked board x.node) → entry_text n board.list x ≡ marked_text n board x
unfolding marked_text
marked_said n board x marked = sym (cond-true (is_marked board x.node) (entry_text n board.list x) [] marked)

pub unmarked_said : (n : NamedSys) (board : Board) (x : Entry ℕ) → IsFalse (is_marked board x.node) → [] ≡ marked_text n board x
unfolding marked_text
unmarked_said n board x unmarked = sym (cond-false (is_marked board x.node) (entry_text n board.list x) [] unmarked)
