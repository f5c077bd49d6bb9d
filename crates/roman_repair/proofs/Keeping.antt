-- Replays, candidate by candidate.
use Rattle.roman_repair.proofs.Common.{◌≡◌, ℕ, ◌+◌, ◌*◌, ◌<◌, ◌≤◌, if◌then◌else◌, ◌&&◌, List, [], ◌∷◌, ◌++◌, length, IsTrue, count_by, inl, inr, refl, sym, ap, ◌∙◌, subst, arith, append-nil, append_assoc, sum_by, false_from_ne_true, eqb-true, or_from, map-append, sum_by-cons, list_any-append, IsIn, below, Arena, Entry, is_listed, is_justified, readings, is_among, Reason, Final, Act, grown_numbers, in_map, from_map, in_below, sum_by_within, listed_among, justified_same, replay_from_same, middle_first, readings_at, readings_within, IsNumbered, IsReasonOf, readings_of_reason, readings_of-allowed, nodes_of, is_possible, AreCandidates, with_replay, readings_of_entries}

-- a possible reason names an action of the system
pub possible_reason : (A : Arena ℕ) → IsNumbered A → (p : ℕ) (reason : Reason) → IsTrue (is_possible A p reason) → IsReasonOf A reason
possible_reason A ok p Final possible = tt
possible_reason A ok p (Act a) possible = ok.allowed p a possible

-- The list with the entries that a replay adds to it.

-- the list after one candidate
abbrev pub with_one : Arena ℕ → List (Entry ℕ) → Entry ℕ → List (Entry ℕ)
with_one A kept x = if is_justified A (is_listed A kept) x.node x.reason then kept ++ x ∷ [] else kept

last_first : (A : Arena ℕ) (kept : List (Entry ℕ)) (x : Entry ℕ) (q : ℕ) → is_among A (nodes_of (kept ++ x ∷ [])) q ≡ is_among A (x.node ∷ nodes_of kept) q
last_first A kept x q =
    ap (λ ps. is_among A ps q) (map-append (λ (y : Entry ℕ). y.node) kept (x ∷ [])) ∙ middle_first A (nodes_of kept) [] x.node q
    ∙ ap (λ ps. is_among A (x.node ∷ ps) q) (append-nil (nodes_of kept))

pub with_replay_step : (A : Arena ℕ) (kept : List (Entry ℕ)) (x : Entry ℕ) (L : List (Entry ℕ)) → with_replay A kept (x ∷ L) ≡ with_replay A (with_one A kept x) L
with_replay_step A kept x L = grind (arith, append_assoc, (justified_same A (is_among A (nodes_of kept)) (is_listed A kept) x.node x.reason (λ a k q i. sym (listed_among A kept q))), (replay_from_same A (nodes_of (kept ++ x ∷ [])) (x.node ∷ nodes_of kept) L (last_first A kept x)))

-- Candidates.

-- the candidates after one that is kept or not
pub candidates_step : (A : Arena ℕ) (kept : List (Entry ℕ)) (x : Entry ℕ) (L : List (Entry ℕ)) → AreCandidates A kept (x ∷ L) → AreCandidates A (with_one A kept x) L
candidates_step A kept x L are = grind (arith, eqb-true, false_from_ne_true, in_map, list_any-append, or_from)

-- The candidates of one entry.

-- the candidate with the state b
abbrev pub grown_number : ℕ → Entry ℕ → ℕ → Entry ℕ
grown_number states x b = record { node = x.node * states + b; reason = x.reason }

-- an entry grown by one state is its own candidate
pub grown_once : (states : ℕ) (x : Entry ℕ) → states ≡ 1 → grown_numbers states x ≡ x ∷ []
grown_once states x one = grind arith

-- Readings.

reading_le : (A : Arena ℕ) (p : ℕ) (reason : Reason) → IsNumbered A → IsTrue (is_possible A p reason) → readings_of_reason A p reason ≤ readings_at A p
reading_le A p Final ok possible = omega arith
reading_le A p (Act a) ok possible =
    let each = λ (b : ℕ). count_by (λ k. A.allows p b && A.ready k) (below A.seats) in
    let some : sum_by each (a ∷ []) ≤ readings_at A p = sum_by_within each (a ∷ []) (below A.actions) (λ i. absurd i, tt) (λ b i. elim i [ inl e ↦ subst (λ c. IsIn c (below A.actions)) (sym e) (in_below A.actions a (ok.allowed p a possible)) | inr none ↦ absurd none ]) in
    grind (arith, some, (readings_of-allowed A p a possible), (sum_by-cons each a []))

entries_le : (A : Arena ℕ) (L : List (Entry ℕ)) → IsNumbered A → ((x : Entry ℕ) → IsIn x L → IsTrue (is_possible A x.node x.reason)) → readings_of_entries A L ≤ sum_by (readings_at A) (nodes_of L)
entries_le A [] ok possible = omega arith
entries_le A (x ∷ L) ok possible = omega (arith, entries_le A L ok (λ y i. possible y (inr i)), reading_le A x.node x.reason ok (possible x (inl refl)), sum_by-cons (λ (y : Entry ℕ). readings_of_reason A y.node y.reason) x L, sum_by-cons (readings_at A) x.node (nodes_of L))

-- the candidates have at most the readings of the whole system
pub candidates_readings : (A : Arena ℕ) (kept L : List (Entry ℕ)) → IsNumbered A → AreCandidates A kept L → readings_of_entries A L ≤ readings A
candidates_readings A kept L ok are =
    let in_nodes : (p : ℕ) → IsIn p (nodes_of L) → IsIn p A.nodes = λ p i.
    let (x, j, e) = from_map (λ (x : Entry ℕ). x.node) p L i in
    grind (arith, e, ok.nodes, (in_below (length A.nodes) x.node (are.nodes x j))) in
    let within : sum_by (readings_at A) (nodes_of L) ≤ readings A = readings_within A (nodes_of L) are.once (λ p i. in_nodes p i) in
    omega (arith, entries_le A L ok are.possible)
