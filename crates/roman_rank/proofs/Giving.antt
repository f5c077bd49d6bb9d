-- The levels of a list, assigned to its nodes.
use Rattle.roman_rank.proofs.Common.{◌≡◌, ◌≢◌, ℕ, zero, suc, ◌+◌, ◌-◌, ◌^◌, ◌<◌, ◌≤◌, ◌==◌, true, List, [], ◌∷◌, ◌++◌, length, take, slice_index, Some, IsTrue, IsFalse, inl, inr, refl, sym, ap, ◌∙◌, subst, arith, add-one, take-length, both_ways, eqb-true, eq-eqb, cases_eq, cases_lt, get_or_past, Arena, loses, by_test, last_is_steady, IsNumbered, numbered_arena, in_nodes, has_entry, IsRank, AreRanks, AreRanksBelow, GivesLevel, HoldsAllLost, set, slice_get, min, IsDistinct, take-append_seam, or_cases, or_left, or_right, false≢true, get_or-map, get_or-set_same, get_or-set_other, get_or_from_slice_get, slice_get_within, apart_from_distinct, Entry, is_listed, loses_down, nodes_of, AreLevels, listed_is, loses_before}

-- ---- places in a list

-- each node with an entry in the prefix has a place there
pub entry_place : (L : List (Entry ℕ)) (m p : ℕ) → has_entry (take m L) p ≡ true → (i : ℕ) × (i < m) × (i < length L) × (slice_index (nodes_of L) i ≡ p)
entry_place [] zero p t = absurd (false≢true t)
entry_place [] (suc m) p t = absurd (false≢true t)
entry_place (x ∷ L) zero p t = absurd (false≢true t)
entry_place (x ∷ L) (suc m) p t = elim (or_cases (p == x.node) (has_entry (take m L) p) t) [
  | inl here ↦ (0, omega arith, omega arith, sym (eqb-true p x.node here))
  | inr later ↦ let (i, l, k, e) = entry_place L m p later in (suc i, omega arith, omega arith, e)
]

-- each node with a place in the prefix has an entry there
pub place_entry : (L : List (Entry ℕ)) (m p i : ℕ) → i < m → i < length L → slice_index (nodes_of L) i ≡ p → has_entry (take m L) p ≡ true
place_entry [] m p i l k e = absurd (omega arith)
place_entry (x ∷ L) zero p i l k e = absurd (omega arith)
place_entry (x ∷ L) (suc m) p zero l k e = or_left (p == x.node) (has_entry (take m L) p) (eq-eqb p x.node (sym e))
place_entry (x ∷ L) (suc m) p (suc i) l k e = or_right (p == x.node) (has_entry (take m L) p) (place_entry L m p i (omega arith) (omega arith) e)

-- a node has only one place
pub one_place : (L : List (Entry ℕ)) (i j : ℕ) → IsDistinct (λ x y. x == y) (nodes_of L) → i < j → j < length (nodes_of L) → slice_index (nodes_of L) i ≢ slice_index (nodes_of L) j
one_place L i j apart l k e =
    false≢true (sym (apart_from_distinct (λ x y. x == y) (nodes_of L) i j 0 apart l k) ∙ eq-eqb (slice_index (nodes_of L) i) (slice_index (nodes_of L) j) e)

-- the place of an entry
pub node_at : (L : List (Entry ℕ)) (i : ℕ) (x : Entry ℕ) → slice_get L i ≡ Some x → slice_index (nodes_of L) i ≡ x.node
node_at L i x e = get_or-map (λ y. y.node) L i x 0 (slice_get_within L i x e) ∙ ap (λ y. y.node) (get_or_from_slice_get L i x x e)

pub node_entry : (L : List (Entry ℕ)) (i : ℕ) (x : Entry ℕ) → slice_get L i ≡ Some x → has_entry L x.node ≡ true
node_entry L i x e =
    let l : i < length L = slice_get_within L i x e in
    subst (λ M. has_entry M x.node ≡ true) (take-length L) (place_entry L (length L) x.node i l l (node_at L i x e))

-- one more entry's node is given the number
pub gives_more : (L : List (Entry ℕ)) (start i n p : ℕ) (old now : List ℕ) → start ≤ i → slice_index (nodes_of L) i ≡ p → p < length now →
    GivesLevel L start i n old now → GivesLevel L start (i + 1) n old (set now p n)
gives_more L start i n p old now from at l gives = grind (arith, cases_eq, get_or-set_other, get_or-set_same)

-- a prefix of the table that is written back
pub front_is : (n : ℕ) (xs ys : List ℕ) → length xs ≡ n → take n (xs ++ ys) ≡ xs
front_is n xs ys e = ap (λ m. take m (xs ++ ys)) (sym e) ∙ take-append_seam xs ys

-- ---- levels

-- the place at which level n begins
abbrev pub start_of : List ℕ → ℕ → ℕ
start_of levels zero = 0
start_of levels (suc n) = slice_index levels n

pub start_next : (levels : List ℕ) (n : ℕ) → start_of levels (n + 1) ≡ slice_index levels n
start_next levels n = ap (start_of levels) (add-one n)

-- the levels before n have exactly the nodes at which the opponent wins within fewer than n requests
pub front_lost : (A : Arena ℕ) → IsNumbered A → (levels : List ℕ) (L : List (Entry ℕ)) (n p : ℕ) → AreLevels A levels L → n ≤ length levels → p < length A.nodes →
    has_entry (take (start_of levels n) L) p ≡ loses_before A n p
front_lost A ok levels L zero p are l inside = refl
front_lost A ok levels L (suc n) p are l inside = sym (listed_is A ok (take (slice_index levels n) L) p) ∙ (are.each n (omega arith)).each p inside

pub loses_before_less : (A : Arena ℕ) (n m p : ℕ) → m < n → IsFalse (loses_before A n p) → IsFalse (loses A m p)
loses_before_less A zero m p l f = absurd (omega arith)
loses_before_less A (suc n) m p l f = loses_down A m n p (omega arith) f

pub loses_before_more : (A : Arena ℕ) (n p : ℕ) → IsFalse (loses A n p) → IsFalse (loses_before A n p)
loses_before_more A zero p f = refl
loses_before_more A (suc n) p f = loses_down A n (suc n) p (omega arith) f

-- one more level is assigned
pub ranks_more : (A : Arena ℕ) → IsNumbered A → (levels : List ℕ) (L : List (Entry ℕ)) (n : ℕ) (old new : List ℕ) → AreLevels A levels L →
    IsDistinct (λ x y. x == y) (nodes_of L) → length (nodes_of L) ≡ length L → n < length levels → n < 2 ^ 32 - 1 → length new ≡ length old →
    GivesLevel L (start_of levels n) (slice_index levels n) n old new → AreRanksBelow A n old → AreRanksBelow A (suc n) new
ranks_more A ok levels L n old new are apart long l few same gives below =
    record {
      long = same ∙ below.long;
      lost = λ p inside t. by_test (loses_before A n p) (λ sooner.
          let (less, is) = below.lost p inside sooner in
          let kept = gives.others p (λ i from to e.
          let (j, before, k, at) = entry_place L (start_of levels n) p (front_lost A ok levels L n p are (omega arith) inside ∙ sooner) in
          one_place L j i apart (omega arith) (omega (arith, long, are.within n l)) (at ∙ sym e)) in
          subst (λ d. (d < suc n) × IsRank A p d) (sym kept) (omega arith, is)) (λ now.
          let (i, to, k, at) = entry_place L (slice_index levels n) p (front_lost A ok levels L (suc n) p are (omega arith) inside ∙ t) in
          let from : start_of levels n ≤ i = elim (cases_lt i (start_of levels n)) [
            | inl before ↦ absurd (both_ways (loses_before A n p) now (sym (front_lost A ok levels L n p are (omega arith) inside) ∙ place_entry L (start_of levels n) p i before k at))
            | inr past ↦ past
          ] in
          let is : slice_index new p ≡ n = subst (λ q. slice_index new q ≡ n) at (gives.given i from to) in
          let rank : IsRank A p n = inl (few, t, λ m less. loses_before_less A n m p less now) in
          subst (λ d. (d < suc n) × IsRank A p d) (sym is) (omega arith, rank));
      others = λ p inside f. gives.others p (λ i from to e. both_ways (loses A n p) f
          (sym (front_lost A ok levels L (suc n) p are (omega arith) inside) ∙ place_entry L (slice_index levels n) p i to (omega (arith, are.within n l)) e))
          ∙ below.others p inside (loses_before_more A n p f);
    }

-- after all levels, or after one more than there are nodes, each node has its rank
pub ranks_all : (A : Arena ℕ) → IsNumbered A → (levels : List ℕ) (L : List (Entry ℕ)) (n : ℕ) (table : List ℕ) → AreLevels A levels L → HoldsAllLost A L →
    n ≡ min (length levels) (length A.nodes + 1) → AreRanksBelow A n table → AreRanks A table
ranks_all A ok levels L n table are all last below =
    let never : (p : ℕ) → p < length A.nodes → IsFalse (loses_before A n p) → (k : ℕ) → IsTrue (loses A k p) → ⊥ = λ p inside f k t. elim (cases_lt n (length levels)) [
      | inl less ↦
          let here : n ≡ length A.nodes + 1 = omega (arith, last) in
          let g : IsFalse (loses A (length A.nodes) p) = loses_before_less A n (length A.nodes) p (omega arith) f in
          elim (cases_lt k (length A.nodes)) [
            | inl small ↦ both_ways (loses A k p) (loses_down A k (length A.nodes) p (omega arith) g) t
            | inr large ↦ both_ways (loses A k p) (last_is_steady A (numbered_arena A ok) k large p (in_nodes A ok p inside) ∙ g) t
          ]
      | inr more ↦
          let here : n ≡ length levels = omega (arith, last) in
          let end : length levels ≡ suc (length levels - 1) = omega (arith, are.some) in
          let g : IsFalse (loses A (length levels - 1) p) = loses_before_less A n (length levels - 1) p (omega (arith, are.some)) f in
          let whole : take (slice_index levels (length levels - 1)) L ≡ L = ap (λ m. take m L) are.last ∙ take-length L in
          let there : is_listed A L p ≡ loses A (length levels - 1) p =
          ap (λ M. is_listed A M p) (sym whole) ∙ (are.each (length levels - 1) (omega (arith, are.some))).each p inside in
          both_ways (is_listed A L p) (there ∙ g) (all.each p inside k t)
    ] in
    record {
      long = below.long;
      each = λ p inside. by_test (loses_before A n p)
          (λ t. (below.lost p inside t).1)
          (λ f. inr (below.others p inside f, λ k. by_test (loses A k p) (λ t. absurd (never p inside f k t)) (λ g. g)));
    }

-- ranks are numbers of 32 bits
pub ranks_small : (A : Arena ℕ) (table : List ℕ) → AreRanks A table → (p : ℕ) → slice_index table p < 2 ^ 32
ranks_small A table ranks p = grind (arith, cases_lt, get_or_past)
