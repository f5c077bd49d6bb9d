-- Relations with a complete list, and the greatest ND-simulation.
use Rattle.roman_relation.proofs.Common.{◌≡◌, ◌≢◌, ℕ, ◌+◌, ◌<◌, ◌≤◌, ◌⊎◌, Bool, true, not, List, [], ◌∷◌, length, IsTrue, inl, inr, refl, sym, ap, ◌∙◌, subst, arith, ◌↔◌, filter, below, Arena, Entry, is_listed, choices, sizes_of, count, pair_at, numbered, length-below, in_listed, related_great, great_related, numbers_are_pairs, AreNumbers, numbered_is_same, numbered_completed_by, numbered_listed, numbered_choices, numbered_related_count, system_of, NamedSys, IsNamedSys, Board, pairs_of, has_entry, IsSettled, AreLevels, arena_of, HasCaps, HasCompleteList, not-not, le-div_iff_mul-le, Sys, pairs, Great, is_related, choice_count}

-- there are no levels, or they are those of the list
pub either_levels : (A : Arena ℕ) (L : List (Entry ℕ)) (board : Board) → (L ≡ [] → AreLevels A board.levels board.list) → (L ≢ [] → board.levels ≡ []) → (board.levels ≡ []) ⊎ AreLevels A board.levels board.list
either_levels A [] board fresh stale = inr (fresh refl)
either_levels A (x ∷ L) board fresh stale = inl (stale (λ e. cc))

-- the number of a joint's pairs
pub ruleset counted = (length-below)

-- a settled list is complete
pub completed : (n : NamedSys) (board : Board) → IsNamedSys n → IsSettled (arena_of n) board.list → board.waiting ≡ [] → (board.levels ≡ []) ⊎ AreLevels (arena_of n) board.levels board.list → HasCompleteList n board
completed n board known settled idle levels =
    let s = system_of n in
    let nodes : length (below (count (sizes_of s))) ≡ count (sizes_of s) = length-below (count (sizes_of s)) in
    record {
      list = numbered_completed_by s board.list known.system (λ x i. subst (λ m. x.node < m) nodes (settled.nodes x i)) settled.order
          (λ p l unlisted reason. settled.no_more p (subst (λ m. p < m) (sym nodes) l) unlisted reason);
      idle = idle;
      levels = levels;
    }

-- the entries are those of pairs
pub listed_numbers : (s : Sys) (board : Board) → pairs_of board ≡ length (below (count (sizes_of s))) → ((p : ℕ) → has_entry board.list p ≡ true → p < pairs_of board) → AreNumbers s board.list
listed_numbers s board pairs in_range x i =
    let within : x.node < pairs_of board = in_range x.node (in_listed (numbered s) (numbered_is_same s) board.list x i) in
    omega (arith, pairs, length-below (count (sizes_of s)))

-- a pair is related exactly if it isn't listed
pub alive_related : (n : NamedSys) (board : Board) (p : ℕ) (alive : Bool) → IsNamedSys n → HasCompleteList n board → AreNumbers (system_of n) board.list → p < count (sizes_of (system_of n)) →
    alive ≡ not (has_entry board.list p) → IsTrue alive ↔ Great (system_of n) (pair_at (sizes_of (system_of n)) p)
alive_related n board p alive known complete are l is =
    let s = system_of n in
    let test : alive ≡ is_related s (pair_at (sizes_of s) p) =
    is ∙ ap not (numbered_listed s board.list p known.system are complete.list l) ∙ not-not (is_related s (pair_at (sizes_of s) p)) in (
      λ t. related_great s (pair_at (sizes_of s) p) known.system ((numbers_are_pairs s).pair p l) (sym test ∙ t),
      λ great. test ∙ great_related s (pair_at (sizes_of s) p) known.system great,
    )

pub related_counted : (n : NamedSys) (board : Board) (m : ℕ) → IsNamedSys n → HasCompleteList n board → m + length board.list ≡ count (sizes_of (system_of n)) →
    m ≡ length (filter (is_related (system_of n)) (pairs (system_of n)))
related_counted n board m known complete rest = omega (arith, rest, numbered_related_count (system_of n) board.list known.system complete.list)

pub choices_counted : (n : NamedSys) (board : Board) (m : ℕ) → IsNamedSys n → HasCompleteList n board → AreNumbers (system_of n) board.list → m ≡ choices (arena_of n) (is_listed (arena_of n) board.list) → m ≡ choice_count (system_of n)
choices_counted n board m known complete are is = is ∙ numbered_choices (system_of n) board.list known.system are complete.list

-- the order has room for the joint
pub room_for_pairs : (n : NamedSys) (board : Board) → IsNamedSys n → HasCaps n board → length (below (count (sizes_of (system_of n)))) ≤ board.cap_pairs
room_for_pairs n board known caps = grind (arith, le-div_iff_mul-le, length-below)
