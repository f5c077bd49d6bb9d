-- Lists with entries for the lanes of rows.
use Rattle.roman_relation.proofs.Common.{all_in, in_lanes, lane_place, ◌≡◌, ℕ, ◌+◌, ◌*◌, ◌<◌, ◌≤◌, ◌==◌, Bool, true, false, not, List, [], ◌∷◌, ◌++◌, length, take, drop, slice_index, IsTrue, IsFalse, inl, inr, refl, sym, ap, ◌∙◌, subst, arith, append-nil, append_assoc, take-append-drop, both_ways, cases_lt, cases_eq, false_from_ne_true, or_cases, or_left, and_parts, and_from, not_from_false, not-true, eq-eqb, ne_eqb, get_or_past, take-take, IsIn, below, Arena, Entry, is_listed, is_justified, IsOrder, Reason, from_map, from_flat_map, in_flat_map, from_below, in_map, in_below, in_append_right, listed_append, listed_in, in_listed, listed_push, justified_more, order_push, is_on, Keeps, on_zero, IsNumbered, numbered_same, Board, as_entry, set_lanes, has_entry, nodes_of, entries_in_rows, entries_in, AreUnlisted, AddsTo, AddsLost, AreLostRows, IsDistinct, IsDistinct-head, IsDistinct-tail}
use Rattle.roman_relation.proofs.Beginnings.{begins_append, begins_listed, begins_on, begins_unlisted, listed_is, take_listed}
use Rattle.roman_relation.proofs.Losses.{in_entries}

-- ---- entries of distinct pairs

-- no entry has the pair of a later one
apart : (L M : List (Entry ℕ)) (x : Entry ℕ) → IsDistinct (λ p q. p == q) (nodes_of (L ++ M)) → IsIn x M → has_entry L x.node ≡ false
apart [] M x distinct i = refl
apart (y ∷ L) M x distinct i =
    let ne = all_in (λ q. (y.node == q) ≡ false) (nodes_of (L ++ M)) x.node (IsDistinct-head (λ p q. p == q) y.node (nodes_of (L ++ M)) distinct) (in_map (λ (z : Entry ℕ). z.node) x (L ++ M) (in_append_right x L M i)) in
    let rest = apart L M x (IsDistinct-tail (λ p q. p == q) y.node (nodes_of (L ++ M)) distinct) i in
    grind (arith, ne, rest, cases_eq, eq-eqb, ne_eqb, both_ways)

-- the entries before a place don't list the pair of an entry from a later place on
pub entry_new : (A : Arena ℕ) → IsNumbered A → (L : List (Entry ℕ)) (start i : ℕ) (x : Entry ℕ) → IsDistinct (λ p q. p == q) (nodes_of L) → start ≤ i → IsIn x (drop i L) → IsFalse (is_listed A (take start L) x.node)
entry_new A ok L start i x distinct first inside =
    let off = apart (take i L) (drop i L) x (rw (take-append-drop i L) distinct) inside in
    false_from_ne_true _ (λ t. both_ways _ off (sym (listed_is A ok (take i L) x.node) ∙ take_listed A start (take i L) x.node (rw (take-take start i L first) t)))

-- a removal list stays one with entries of more pairs, whose reasons held before
order_more : (A : Arena ℕ) → IsNumbered A → (gone : ℕ → Bool) (L N : List (Entry ℕ)) → IsDistinct (λ p q. p == q) (nodes_of (L ++ N)) → ((q : ℕ) → IsTrue (gone q) → IsTrue (is_listed A L q)) →
    ((x : Entry ℕ) → IsIn x N → IsTrue (is_justified A gone x.node x.reason)) → IsOrder A L → IsOrder A (L ++ N)
order_more A ok gone L [] distinct less each order = subst (IsOrder A) (sym (append-nil L)) order
order_more A ok gone L (x ∷ N) distinct less each order =
    let new : IsFalse (is_listed A L x.node) = listed_is A ok L x.node ∙ apart L (x ∷ N) x distinct (inl refl) in
    subst (IsOrder A) (append_assoc L (x ∷ []) N) (order_more A ok gone (L ++ x ∷ []) N (rw append_assoc distinct) (λ q t. listed_push A L x q ∙ or_left (is_listed A L q) (A.same q x.node) (less q t)) (λ y i. each y (inr i))
    (order_push A L x order new (justified_more A gone (is_listed A L) x.node x.reason (λ a k q i t. less q t) (each x (inl refl)))))

-- ---- lists that were added to

-- a list that is added to again
pub adds_on : (A : Arena ℕ) (gone : ℕ → Bool) (May More : ℕ → Type 0) (L M N : List (Entry ℕ)) → AddsTo A gone May L M → AddsTo A gone More M N → ((p : ℕ) → More p → May p) → AddsTo A gone May L N
adds_on A gone May More L M N one two may = record {
  begins = begins_on L M N one.begins two.begins;
  valid = λ less order. two.valid (λ p t. begins_listed A L M p one.begins (less p t)) (one.valid less order);
  because = λ p t. elim (two.because p t) [ inl old ↦ one.because p old | inr new ↦ inr (may p new) ];
}

-- ---- the pairs that neighbouring rows lose for a reason

-- the lost lanes, from the words of the rows and the pairs at which the reason holds
pub are_lost : (A : Arena ℕ) (gone : ℕ → Bool) (L : List (Entry ℕ)) (lanes x rows : ℕ) (reason : Reason) (words old lost : List ℕ) → lanes ≤ 64 → AreUnlisted A lanes L words →
    x + rows ≤ length words → length old ≡ rows → ((i : ℕ) → i < rows → slice_index old i ≡ slice_index words (x + i)) →
    Keeps lanes x rows (λ p. is_justified A gone p reason) old lost → AreLostRows A gone L lanes x rows reason lost
are_lost A gone L lanes x rows reason words old lost few are inside long same keeps = grind (arith, both_ways, cases_lt, get_or_past, on_zero)

-- the pairs that the rows lose aren't listed yet
pub lost_free : (A : Arena ℕ) → IsNumbered A → (gone : ℕ → Bool) (b : Board) (lanes x rows : ℕ) (reason : Reason) (lost : List ℕ) (i lane : ℕ) → b.lanes ≡ lanes → length lost ≡ rows →
    AreLostRows A gone b.list lanes x rows reason lost → is_on (slice_index lost i) lane ≡ true → has_entry b.list ((x + i) * b.lanes + lane) ≡ false
lost_free A ok gone b lanes x rows reason lost i lane same long are on = grind (arith, and_parts, both_ways, cases_lt, get_or_past, listed_is, not-true, on_zero)

-- an entry of a lost lane
row_entry : (lanes x rows : ℕ) (lost : List ℕ) (reason : Reason) (e : Entry ℕ) → IsIn e (entries_in_rows lanes x rows lost reason) →
    (i : ℕ) × (lane : ℕ) × (i < rows) × (is_on (slice_index lost i) lane ≡ true) × (e ≡ as_entry ((x + i) * lanes + lane, reason))
row_entry lanes x rows lost reason e inside =
    let (i, j, k) = from_flat_map (λ i. entries_in lanes (x + i) (slice_index lost i) reason) e (below rows) inside in
    let (lane, m, same) = from_map (λ lane. as_entry ((x + i) * lanes + lane, reason)) e (set_lanes (slice_index lost i)) k in
    (i, lane, from_below rows i j, (in_lanes (slice_index lost i) lane m).1, same)

-- the list stays, if the rows lose no pair
pub nothing_lost : (A : Arena ℕ) (gone : ℕ → Bool) (L : List (Entry ℕ)) (lanes x rows : ℕ) (reason : Reason) (lost : List ℕ) → AreLostRows A gone L lanes x rows reason lost → ((i : ℕ) → i < rows → slice_index lost i ≡ 0) → AddsLost A gone lanes x rows reason L L
nothing_lost A gone L lanes x rows reason lost are clear = record {
  adds = record { begins = rw (append-nil L) at (begins_append L []); valid = λ less order. order; because = λ p t. inl t };
  left = λ i lane h l off. grind (arith, are.is i lane h l, clear i h, on_zero, not_from_false, off);
}

-- the entries of the lost pairs
pub rows_added : (A : Arena ℕ) → IsNumbered A → (gone : ℕ → Bool) (L : List (Entry ℕ)) (lanes x rows : ℕ) (reason : Reason) (lost : List ℕ) → AreLostRows A gone L lanes x rows reason lost →
    IsDistinct (λ p q. p == q) (nodes_of (L ++ entries_in_rows lanes x rows lost reason)) → AddsLost A gone lanes x rows reason L (L ++ entries_in_rows lanes x rows lost reason)
rows_added A ok gone L lanes x rows reason lost are distinct =
    let N : List (Entry ℕ) = entries_in_rows lanes x rows lost reason in
    let holds : (i lane : ℕ) → i < rows → is_on (slice_index lost i) lane ≡ true → IsTrue (is_justified A gone ((x + i) * lanes + lane) reason) = λ i lane h on.
    (and_parts (not (is_listed A L ((x + i) * lanes + lane))) (is_justified A gone ((x + i) * lanes + lane) reason) (sym (are.is i lane h (are.within i lane on)) ∙ on)).1 in
    record {
      adds = record {
        begins = begins_append L N;
        valid = λ less. order_more A ok gone L N distinct less (λ e inside. let (i, lane, h, on, same) = row_entry lanes x rows lost reason e inside in rw same (holds i lane h on));
        because = λ p t. elim (or_cases (is_listed A L p) (is_listed A N p) (sym (listed_append A L N p) ∙ t)) [
          | inl old ↦ inl old
          | inr new ↦
              let (e, inside, at) = listed_in A (numbered_same A ok) N p new in
              let (i, lane, h, on, same) = row_entry lanes x rows lost reason e inside in
              let place : p ≡ (x + i) * lanes + lane = at ∙ ap (λ (y : Entry ℕ). y.node) same in
              let row = (lane_place lanes (x + i) lane (are.within i lane on)).0 in
              rw place (inr (holds i lane h on, omega (arith, row), omega (arith, row)))
        ];
      };
      left = λ i lane h l off.
          let p : ℕ = (x + i) * lanes + lane in
          false_from_ne_true _ (λ t.
          let on : is_on (slice_index lost i) lane ≡ true = are.is i lane h l ∙ and_from (not (is_listed A L p)) (is_justified A gone p reason) (not_from_false _ (begins_unlisted A L (L ++ N) p (begins_append L N) off)) t in
          let inside = in_flat_map (λ i. entries_in lanes (x + i) (slice_index lost i) reason) i (as_entry (p, reason)) (below rows) (in_below rows i h) (in_entries lanes (x + i) (slice_index lost i) lane reason (omega (arith, are.few)) on) in
          both_ways (is_listed A (L ++ N) p) off (in_listed A (numbered_same A ok) (L ++ N) (as_entry (p, reason)) (in_append_right _ L N inside)));
    }
