-- The explanation of a pair, as it is printed and as a refutation.
use Rattle.roman_cert.proofs.Common.{AreNumbers, explanation_at, explanation_is_least, explanation_is_order, filter_same, numbers_are_pairs, order_won, Board, is_marked, Entry, is_listed, ExplainedOrder, answer_lines, entry_lines, explain_text, explanation, lost_line, rests_on, Great, IsCompleteList, count, entry_at, pair_at, sizes_of, IsNamedSys, NamedSys, system_of, IsTrue, List, [], ap, ap₂, codes, filter, flat_map, length, map, refl, sym, ℕ, ◌++◌, ◌<◌, ◌∙◌, ◌∷◌, ◌≡◌, OpponentWins, answers_text, entry_text, lost_text, marked_text, arena, arena_of, flat_map-append, names_in, text_of_lines, with_newline}
use Rattle.roman_cert.proofs.Rests.{flat_map-filter}

-- The printed text

-- the lines of an entry, over pairs
entry_text_is : (n : NamedSys) (L : List (Entry ℕ)) (x : Entry ℕ) → entry_text n L x ≡ text_of_lines (entry_lines (system_of n) (names_in n) (map (entry_at (system_of n)) L) (entry_at (system_of n) x))
unfolding entry_text lost_text answers_text
entry_text_is n L x =
    let s = system_of n in
    sym (flat_map-append with_newline (lost_line (names_in n) (entry_at s x) ∷ []) (answer_lines s (names_in n) (map (entry_at s) L) (pair_at (sizes_of s) x.node) x.reason))

entries_text_is : (n : NamedSys) (L M : List (Entry ℕ)) → flat_map (entry_text n L) M ≡ text_of_lines (flat_map (entry_lines (system_of n) (names_in n) (map (entry_at (system_of n)) L)) (map (entry_at (system_of n)) M))
entries_text_is n L [] = refl
entries_text_is n L (x ∷ M) =
    let s = system_of n in
    let lines = entry_lines s (names_in n) (map (entry_at s) L) in
    ap₂ (λ (bs cs : List ℕ). bs ++ cs) (entry_text_is n L x) (entries_text_is n L M) ∙ sym (flat_map-append with_newline (lines (entry_at s x)) (flat_map lines (map (entry_at s) M)))

-- if exactly the entries on which p's entry depends are marked, the lines of the marked ones are the explanation
pub explanation_said : (n : NamedSys) (board : Board) (L : List (Entry ℕ)) (p : ℕ) → IsNamedSys n → AreNumbers (system_of n) L → p < count (sizes_of (system_of n)) → board.list ≡ L →
    ((q : ℕ) → is_marked board q ≡ rests_on (arena_of n) L (length L) p q) →
    flat_map (marked_text n board) board.list ++ codes "end\n" ≡ explain_text (system_of n) (names_in n) (map (entry_at (system_of n)) L) (pair_at (sizes_of (system_of n)) p)
unfolding marked_text
explanation_said n board L p known are l same marked =
    let s = system_of n in
    let lines = entry_lines s (names_in n) (map (entry_at s) L) in
    let listed = filter_same (λ x. is_marked board x.node) (λ x. rests_on (arena_of n) L (length L) p x.node) L (λ x i. marked x.node) in
    ap (λ (bs : List ℕ). bs ++ codes "end\n")
    (sym (flat_map-filter (λ x. is_marked board x.node) (entry_text n board.list) board.list) ∙ ap (λ M. flat_map (entry_text n M) (filter (λ x. is_marked board x.node) M)) same
    ∙ ap (flat_map (entry_text n L)) listed ∙ entries_text_is n L (explanation (arena_of n) L p))
    ∙ sym (flat_map-append with_newline (flat_map lines (map (entry_at s) (explanation (arena_of n) L p))) (codes "end" ∷ []))
    ∙ ap (λ M. text_of_lines (flat_map lines M ++ codes "end" ∷ [])) (explanation_at s known.system L are p l)

-- The refutation

pub unrelated_listed : (n : NamedSys) (L : List (Entry ℕ)) (p : ℕ) → IsCompleteList (system_of n) L → p < count (sizes_of (system_of n)) → (Great (system_of n) (pair_at (sizes_of (system_of n)) p) → ⊥) →
    IsTrue (is_listed (arena (system_of n)) (map (entry_at (system_of n)) L) (pair_at (sizes_of (system_of n)) p))
unrelated_listed n L p complete l unrelated =
    let s = system_of n in
    (complete.exact (pair_at (sizes_of s) p) ((numbers_are_pairs s).pair p l)).1 unrelated

pub unrelated_explained : (n : NamedSys) (L : List (Entry ℕ)) (p : ℕ) → IsNamedSys n → IsCompleteList (system_of n) L → p < count (sizes_of (system_of n)) → (Great (system_of n) (pair_at (sizes_of (system_of n)) p) → ⊥) →
    ExplainedOrder (system_of n) (map (entry_at (system_of n)) L) (pair_at (sizes_of (system_of n)) p)
unrelated_explained n L p known complete l unrelated =
    let s = system_of n in
    explanation_is_order s (map (entry_at s) L) (pair_at (sizes_of s) p) known.system complete.order (unrelated_listed n L p complete l unrelated)

pub unrelated_wins : (n : NamedSys) (L : List (Entry ℕ)) (p : ℕ) → IsNamedSys n → IsCompleteList (system_of n) L → p < count (sizes_of (system_of n)) → (Great (system_of n) (pair_at (sizes_of (system_of n)) p) → ⊥) →
    OpponentWins (system_of n) (explanation (arena (system_of n)) (map (entry_at (system_of n)) L) (pair_at (sizes_of (system_of n)) p)) (pair_at (sizes_of (system_of n)) p)
unrelated_wins n L p known complete l unrelated =
    let s = system_of n in
    let pair = pair_at (sizes_of s) p in
    order_won s (explanation (arena s) (map (entry_at s) L) pair) known.system (unrelated_explained n L p known complete l unrelated).order pair
    (explanation_is_least s (map (entry_at s) L) pair (unrelated_listed n L p complete l unrelated)).closed.first
