-- Marks that are cleared one by one, and bands that are noted.
use Rattle.roman_relation.proofs.Common.{◌≡◌, ◌≢◌, sum_by, ℕ, zero, suc, ◌+◌, ◌*◌, ◌<◌, Bool, true, false, cond, List, length, inl, inr, sym, ap, ◌∙◌, arith, count_by, cases_eq, cases_lt, both_ways, sum_by_push, get_or_past, below, sum_by_same, from_below, has_flag, Board, is_marked, bit_at-zero}

-- ---- fewer marks

-- one more number passes
pub sum_one_more : (f : ℕ → ℕ) (t u : ℕ → Bool) (n y : ℕ) → y < n → t y ≡ false → u y ≡ true → ((z : ℕ) → (z ≡ y → ⊥) → u z ≡ t z) →
    sum_by (λ z. cond (u z) (f z) 0) (below n) ≡ sum_by (λ z. cond (t z) (f z) 0) (below n) + f y
sum_one_more f t u zero y l off on same = absurd (omega arith)
sum_one_more f t u (suc n) y l off on same =
    let one = sum_by_push (λ z. cond (t z) (f z) 0) (below n) n in
    let two = sum_by_push (λ z. cond (u z) (f z) 0) (below n) n in
    elim (cases_eq n y) [
      | inl e ↦
          let early = sum_by_same (λ z. cond (u z) (f z) 0) (λ z. cond (t z) (f z) 0) (below n) (λ z i. ap (λ b. cond b (f z) 0) (same z (λ s. let m = from_below n z i in omega arith))) in
          omega (arith, one, two, early, ap (λ b. cond b (f n) 0) (ap u e ∙ on), ap (λ b. cond b (f n) 0) (ap t e ∙ off), ap f e)
      | inr ne ↦ omega (arith, one, two, ap (λ b. cond b (f n) 0) (same n ne), sum_one_more f t u n y (omega arith) off on same)
    ]

-- the count falls when one number no longer passes
pub count_falls : (f h : ℕ → Bool) (n p : ℕ) → p < n → f p ≡ true → h p ≡ false → ((q : ℕ) → q ≢ p → h q ≡ f q) → count_by h (below n) < count_by f (below n)
count_falls f h n p l on off same = let more = sum_one_more (λ q. 1) h f n p l off on (λ q ne. sym (same q ne)) in omega (arith, more)

-- a marked number has a place in the words
pub marked_within : (words : List ℕ) (p : ℕ) → has_flag words p ≡ true → p < 64 * length words
unfolding has_flag
marked_within words p on = grind (arith, bit_at-zero, both_ways, cases_lt, get_or_past)

-- a number that is marked after a mark was cleared was marked before
pub still_marked : (b c : Board) (y z : ℕ) → is_marked b y ≡ true → ((z ≡ y → ⊥) → is_marked c z ≡ is_marked b z) → is_marked c z ≡ true → is_marked b z ≡ true
still_marked b c y z some others on = elim (cases_eq z y) [ inl e ↦ ap (is_marked b) e ∙ some | inr ne ↦ sym (others ne) ∙ on ]
