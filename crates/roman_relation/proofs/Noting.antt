-- The bands that were noted in a round.
use Rattle.roman_relation.proofs.Common.{◌≡◌, ◌≢◌, ℕ, zero, suc, ◌+◌, ◌-◌, ◌*◌, ◌/◌, ◌%◌, ◌<◌, ◌≤◌, Bool, true, false, cond, ◌==◌, not, List, [], ◌++◌, length, take, drop, slice_index, IsTrue, IsFalse, inl, inr, refl, sym, ap, ◌∙◌, subst, arith, take-append-drop, cases_eq, both_ways, eqb-true, or_left, or_cases, false_from_ne_true, not_from_false, eq-eqb, ne_eqb, by_test, sum_by_same, fall_append, any_from, any_true, from_map, in_append_left, in_append_right, none_from, listed_append, listed_in, same_test, or-false, length-take-le, drop-append-le, list_any-append, sum_by_push, IsIn, below, Arena, Entry, is_listed, fall, IsNumbered, numbered_same, is_on, HasLanes, Board, is_marked, as_entry, has_entry, pairs_of, nodes_of, IsDistinct, IsBatch, entries_at, Batch, in_lanes, lane_place, AreUnkept, AreNoted, AreUnlisted, moves_to, moves_noted, has_band, div-add-mod', div_below, mod_below, take-add}
use Rattle.roman_relation.proofs.Beginnings.{take_listed}
use Rattle.roman_relation.proofs.Losses.{first_lane, in_entries}
use Rattle.roman_relation.proofs.Pushing.{entry_new}
use Rattle.roman_relation.proofs.Marks.{sum_one_more}

-- ---- the bands of entries

-- a batch's band is that of one of its entries
pub own_band : (n w : ℕ) (L : List (Entry ℕ)) (e : Batch) → IsBatch n e → has_band n w (L ++ entries_at n e) (e.row / w) ≡ true
own_band n w L e is =
    let (lane, low, on) = first_lane e.lanes is.some in
    let y : ℕ = e.row / w in
    any_from (λ (x : Entry ℕ). y == x.node / n / w) (as_entry (e.row * n + lane, e.reason)) (L ++ entries_at n e) (in_append_right _ L (entries_at n e) (in_entries n e.row e.lanes lane e.reason low on))
    (eq-eqb y ((e.row * n + lane) / n / w) (ap (λ x. x / w) (sym (lane_place n e.row lane (is.within lane on)).0)))

-- a batch adds no other band than its own
pub other_band : (n w z : ℕ) (L : List (Entry ℕ)) (e : Batch) → IsBatch n e → z ≢ e.row / w → has_band n w (L ++ entries_at n e) z ≡ has_band n w L z
other_band n w z L e is ne = grind (arith, from_map, in_lanes, lane_place, list_any-append, ne_eqb, none_from, or-false)

-- a pair that wasn't listed at the start lies in the band of a later entry
pub new_band : (A : Arena ℕ) → IsNumbered A → (n w start : ℕ) (L : List (Entry ℕ)) (q : ℕ) → IsTrue (is_listed A L q) → IsFalse (is_listed A (take start L) q) → has_band n w (drop start L) (q / n / w) ≡ true
new_band A ok n w start L q t off = elim (or_cases (is_listed A (take start L) q) (is_listed A (drop start L) q) (sym (listed_append A (take start L) (drop start L) q) ∙ (rw (take-append-drop start L) t))) [
  | inl old ↦ absurd (both_ways (is_listed A (take start L) q) off old)
  | inr new ↦ let (x, i, e) = listed_in A (numbered_same A ok) (drop start L) q new in any_from (λ (y : Entry ℕ). q / n / w == y.node / n / w) x (drop start L) i (eq-eqb (q / n / w) (x.node / n / w) (ap (λ p. p / n / w) e))
]

-- ---- noted bands and kept words

-- if a pair that wasn't listed at the start has no kept bit, its band is noted
pub noted_off : (A : Arena ℕ) (n w start row lane : ℕ) (noted : ℕ → Bool) (b : Board) → AreNoted A n w start noted b → row < b.rows → lane < n →
    is_on (slice_index b.before row) lane ≡ false → IsFalse (is_listed A (take start b.list) (row * n + lane)) → noted (row / w) ≡ true
noted_off A n w start row lane noted b is l h off new =
    by_test (noted (row / w)) (λ t. t) (λ f. absurd (both_ways (is_on (slice_index b.before row) lane) off ((is.stale row l f).each lane h ∙ not_from_false _ new)))

-- if a listed pair has a kept bit, its band isn't noted
pub noted_on : (A : Arena ℕ) (n w start row lane : ℕ) (noted : ℕ → Bool) (b : Board) → AreNoted A n w start noted b → row < b.rows → lane < n →
    is_on (slice_index b.before row) lane ≡ true → IsTrue (is_listed A b.list (row * n + lane)) → noted (row / w) ≡ false
noted_on A n w start row lane noted b is l h on listed = grind (arith, both_ways, false_from_ne_true, (is.fresh row l))

-- the same bands are noted
pub noted_same : (A : Arena ℕ) (n w mid start bands : ℕ) (noted more : ℕ → Bool) (b : Board) → ((z : ℕ) → more z ≡ noted z) → AreNoted A n w start noted b →
    AreNoted A n w start more b × (moves_noted A n w mid bands noted ≡ moves_noted A n w mid bands more)
noted_same A n w mid start bands noted more b same is = (
  record { fresh = λ row l on. is.fresh row l (sym (same (row / w)) ∙ on); stale = λ row l off. is.stale row l (sym (same (row / w)) ∙ off); marked = λ p q a k l on. is.marked p q a k l (sym (same (q / n / w)) ∙ on) },
  sum_by_same (λ z. cond (noted z) (moves_to A n w mid z) 0) (λ z. cond (more z) (moves_to A n w mid z) 0) (below bands) (λ z i. ap (λ t. cond t (moves_to A n w mid z) 0) (sym (same z))),
)

-- a band is noted: the present words of its rows are kept, and the bands that lead to it are marked
pub record IsNoted (A : Arena ℕ) (n w y : ℕ) (b c : Board) : Type 0 where
  pub same : c.list ≡ b.list
  pub rows : c.rows ≡ b.rows
  pub kept : (row : ℕ) → row / w ≡ y → HasLanes n row (λ p. not (is_listed A b.list p)) (slice_index c.before row)
  pub others : (row : ℕ) → row / w ≢ y → slice_index c.before row ≡ slice_index b.before row
  pub still : (z : ℕ) → is_marked b z ≡ true → is_marked c z ≡ true
  pub marked : (p q a k : ℕ) → p < length A.nodes → q / n / w ≡ y → IsIn q (A.outcomes p a k) → is_marked c (p / n / w) ≡ true

-- one more band is noted
pub noted_more : (A : Arena ℕ) (n w mid start y : ℕ) (noted more : ℕ → Bool) (b c : Board) → IsNoted A n w y b c → y < b.rows → noted y ≡ false → more y ≡ true → ((z : ℕ) → z ≢ y → more z ≡ noted z) →
    AreNoted A n w start noted b → AreNoted A n w start more c × (moves_noted A n w mid b.rows more ≡ moves_noted A n w mid b.rows noted + moves_to A n w mid y)
noted_more A n w mid start y noted more b c now inside off on others is = (
  record {
    fresh = λ row l t. elim (cases_eq (row / w) y) [
      | inl e ↦ rw now.same (now.kept row e)
      | inr ne ↦ rw (now.others row ne, now.same) (is.fresh row (rw (← now.rows) l) (sym (others (row / w) ne) ∙ t))
    ];
    stale = λ row l f. elim (cases_eq (row / w) y) [
      | inl e ↦ absurd (both_ways (more (row / w)) f (ap more e ∙ on))
      | inr ne ↦ rw (now.others row ne, now.same) (is.stale row (rw (← now.rows) l) (sym (others (row / w) ne) ∙ f))
    ];
    marked = λ p q a k l t i. elim (cases_eq (q / n / w) y) [ inl e ↦ now.marked p q a k l e i | inr ne ↦ now.still (p / n / w) (is.marked p q a k l (sym (others (q / n / w) ne) ∙ t) i) ];
  },
  sum_one_more (moves_to A n w mid) noted more b.rows y inside off on others,
)

-- ---- the entries of the round

-- some more entries of the round
pub more_new : (L : List (Entry ℕ)) (start i k : ℕ) → start ≤ i → i ≤ length L → drop start (take (i + k) L) ≡ drop start (take i L) ++ take k (drop i L)
more_new L start i k first within = rw take-add (drop-append-le start (take i L) (take k (drop i L)) (omega (arith, length-take-le i L within)))

-- in a round that began at `start` with so many steps, the bands of the entries L are noted
pub record IsReached (A : Arena ℕ) (n w mid start first steps : ℕ) (L : List (Entry ℕ)) (b : Board) : Type 0 where
  pub noted : AreNoted A n w start (has_band n w L) b
  pub spent : steps ≡ first + moves_noted A n w mid b.rows (has_band n w L)
  pub cost : steps ≤ first + fall A L

-- entries without bits in the kept words are passed over
pub passed_unkept : (A : Arena ℕ) (n w mid start first steps i j : ℕ) (b : Board) → IsNumbered A → IsDistinct (λ p q. p == q) (nodes_of b.list) → b.lanes ≡ n → 0 < n →
    ((p : ℕ) → has_entry b.list p ≡ true → p < pairs_of b) → start ≤ i → AreUnkept b i j → IsReached A n w mid start first steps (drop start (take i b.list)) b → IsReached A n w mid start first steps (drop start (take j b.list)) b
passed_unkept A n w mid start first steps i j b ok distinct lanes some in_range from over is =
    let L : List (Entry ℕ) = drop start (take i b.list) in
    let N : List (Entry ℕ) = take (j - i) (drop i b.list) in
    let upto : drop start (take j b.list) ≡ L ++ N = ap (λ k. drop start (take k b.list)) (omega (arith, over.from)) ∙ more_new b.list start i (j - i) from (omega (arith, over.from, over.to)) in
    let inside : (x : Entry ℕ) → IsIn x N → IsIn x (drop i b.list) = λ x h. subst (IsIn x) (take-append-drop (j - i) (drop i b.list)) (in_append_left x N (drop (j - i) (drop i b.list)) h) in
    let low : (x : Entry ℕ) → IsIn x N → x.node / n < b.rows = λ x h.
    let among : IsIn x b.list = subst (IsIn x) (take-append-drop i b.list) (in_append_right x (take i b.list) (drop i b.list) (inside x h)) in
    div_below x.node n b.rows some (subst (λ m. x.node < b.rows * m) lanes (in_range x.node (any_from (λ (y : Entry ℕ). x.node == y.node) x b.list among (eq-eqb x.node x.node refl)))) in
    let same : (z : ℕ) → has_band n w (L ++ N) z ≡ has_band n w L z = λ z. same_test (has_band n w (L ++ N) z) (has_band n w L z)
    (λ t. elim (or_cases (has_band n w L z) (has_band n w N z) (sym (list_any-append (λ (x : Entry ℕ). z == x.node / n / w) L N) ∙ t)) [
      | inl old ↦ old
      | inr new ↦
          let (x, h, e) = any_true (λ (x : Entry ℕ). z == x.node / n / w) N new in
          rw (eqb-true z (x.node / n / w) e) (noted_off A n w start (x.node / n) (x.node % n) (has_band n w L) b is.noted (low x h) (mod_below x.node n some)
          (subst (λ m. is_on (slice_index b.before (x.node / m)) (x.node % m) ≡ false) lanes (over.unkept x h)) (rw (div-add-mod' x.node n) (entry_new A ok b.list start i x distinct from (inside x h))))
    ])
    (λ t. list_any-append (λ (x : Entry ℕ). z == x.node / n / w) L N ∙ or_left _ _ t) in
    let (noted, sum) = noted_same A n w mid start b.rows (has_band n w L) (has_band n w (L ++ N)) b same is.noted in
    rw upto (record { noted = noted; spent = is.spent ∙ ap (λ m. first + m) sum; cost = omega (arith, is.cost, fall_append A L N) })

-- when all entries are noted, the kept words are those of the list
pub kept_ends : (A : Arena ℕ) → IsNumbered A → (n w start : ℕ) (b : Board) → length b.before ≡ b.rows → AreNoted A n w start (has_band n w (drop start b.list)) b → AreUnlisted A n b.list b.before
kept_ends A ok n w start b long is = record {
  each = λ row h. let l : row < b.rows = omega (arith, long) in by_test (has_band n w (drop start b.list) (row / w)) (is.fresh row l)
      (λ f. record {
        each = λ lane h. (is.stale row l f).each lane h ∙ ap not (same_test (is_listed A (take start b.list) (row * n + lane)) (is_listed A b.list (row * n + lane)) (take_listed A start b.list (row * n + lane))
            (λ t. by_test (is_listed A (take start b.list) (row * n + lane)) (λ u. u)
            (λ off. absurd (both_ways (has_band n w (drop start b.list) (row / w)) f (rw (lane_place n row lane h).0 at (new_band A ok n w start b.list (row * n + lane) t off))))));
        rest = (is.stale row l f).rest;
      });
}

-- without entries the sum of moves is 0
pub none_moves : (A : Arena ℕ) (n w mid bands : ℕ) → moves_noted A n w mid bands (has_band n w []) ≡ 0
none_moves A n w mid zero = refl
none_moves A n w mid (suc bands) = sum_by_push (λ y. cond (has_band n w [] y) (moves_to A n w mid y) 0) (below bands) bands ∙ ap (λ k. k + 0) (none_moves A n w mid bands)
