-- The texts of an explanation, for entries and lists over the numbers of pairs.
use Rattle.std.specs.Prelude.{◌≡◌, ℕ, ◌<◌, ◌||◌, List, Some, [], ◌∷◌, ◌++◌, ◌&&◌, codes, length, map, slice_get, slice_index, if◌then◌else◌}
use Rattle.std.specs.List.{flat_map}
use Rattle.roman_model.specs.Lines.{text_of_lines}
use Rattle.roman_model.specs.Arena.{Arena, Entry, is_among, IsOrder}
use Rattle.roman_model.specs.System.{Pair}
use Rattle.roman_model.specs.Numbers.{sizes_of, pair_at, entry_at}
use Rattle.roman_model.specs.declared.reason.Reason.{Reason}
use Rattle.roman_model.specs.declared.reason.Reason.TheVariants.{Act}
use Rattle.roman_model.specs.Explanation.{answer_lines, answers, lost_line, name_at, rests_on, seat_names}
use Rattle.roman_joint.specs.NamedSys.{NamedSys, system_of}
use Rattle.roman_joint.specs.Names.{names_in}
use Rattle.roman_joint.specs.Pairs.{arena_of, joint_pairs}
use Rattle.roman_rules.specs.Probes.{IsReasonOf}
use Rattle.roman_order.specs.Board.{Board, as_entry, is_marked, pairs_of}
use Rattle.roman_cert.specs.declared.slice.Placed.{Placed}

-- the line of a lost pair, with the reason
unfoldable pub lost_text : NamedSys → Entry ℕ → List ℕ
lost_text n x = text_of_lines (lost_line (names_in n) (entry_at (system_of n) x) ∷ [])

-- the lines of the ready services, each with its answer to the entry's action, if the entry is one of the list
unfoldable pub answers_text : NamedSys → List (Entry ℕ) → Entry ℕ → List ℕ
answers_text n L x =
    let s = system_of n in
    text_of_lines (answer_lines s (names_in n) (map (entry_at s) L) (pair_at (sizes_of s) x.node) x.reason)

-- the line of a lost pair with the reason, and the lines of the ready services
unfoldable pub entry_text : NamedSys → List (Entry ℕ) → Entry ℕ → List ℕ
entry_text n L x = lost_text n x ++ answers_text n L x

-- the lines of an entry of the order's list, or none if its pair isn't marked
unfoldable pub marked_text : NamedSys → Board → Entry ℕ → List ℕ
marked_text n board x = if is_marked board x.node then entry_text n board.list x else []

-- the lines of the entries whose pairs are marked, and the last line
abbrev pub slice_text : NamedSys → Board → List ℕ
slice_text n board = flat_map (marked_text n board) board.list ++ codes "end\n"

-- the name of the state of service k at a pair, and of the environment's
abbrev pub state_text : NamedSys → ℕ → Pair → List ℕ
state_text n k q = name_at (seat_names (names_in n) k).states (slice_index q.bs k)

abbrev pub env_text : NamedSys → Pair → List ℕ
env_text n q = name_at (names_in n).env q.e

-- p is the number of a pair, and the reason is one of the system
abbrev pub IsEntryOf : NamedSys → ℕ → Reason → Type 0
IsEntryOf n p reason = (p < joint_pairs n) × IsReasonOf (arena_of n) reason

-- the list of the order is a removal list of the arena, and the order has as many pairs
abbrev pub IsOrderOf : Arena ℕ → Board → Type 0
IsOrderOf A board = (pairs_of board ≡ length A.nodes) × IsOrder A board.list

-- exactly the pairs that were marked before, and those of the answers to the entry at place i if that entry was marked, are marked
abbrev pub MarksFrom : Arena ℕ → ℕ → Board → Board → Type 0
MarksFrom A i old new =
    (x : Entry ℕ) → slice_get old.list i ≡ Some x → (q : ℕ) →
    is_marked new q ≡ (is_marked old q || (is_marked old x.node && is_among A (answers A old.list x.node x.reason) q))

-- exactly the pairs of the entries on which the list's entry of p depends are marked
abbrev pub MarksSlice : Arena ℕ → List (Entry ℕ) → ℕ → Board → Type 0
MarksSlice A L p board = (q : ℕ) → is_marked board q ≡ rests_on A L (length L) p q

-- the pairs of the answers to the entry of p are marked as well
abbrev pub MarksAnswers : Arena ℕ → Board → Board → ℕ → Reason → Type 0
MarksAnswers A old new p reason = (q : ℕ) → is_marked new q ≡ (is_marked old q || is_among A (answers A old.list p reason) q)

-- the entry of p, for the action a, is at place i of the list
abbrev pub HasAct : List (Entry ℕ) → ℕ → ℕ → ℕ → Type 0
HasAct L i p a = slice_get L i ≡ Some (as_entry (p, Act a))

-- the entry is at its place of the list, with this reason
abbrev pub StandsIn : List (Entry ℕ) → Placed → Reason → Type 0
StandsIn L entry reason = slice_get L entry.place ≡ Some (as_entry (entry.pair, reason))
