-- The least number that passes a test, and the bits that two words share.
use Rattle.roman_guard.proofs.Common.{◌≡◌, ℕ, zero, suc, ◌+◌, ◌<◌, ◌≤◌, ◌^◌, ◌==◌, ◌&&◌, min, inl, inr, Bool, true, false, Some, None, refl, ap, sym, ◌∙◌, arith, w64, bit_and, bit_at, trailing_zeros, find, range_with_len, cases_order, bit_at-zero, bit_at-lt, bit_at_and, bit_at-trailing_zeros, has_state, has_both, least_below}

found_from : (test : ℕ → Bool) (a m e : ℕ) → a ≤ e → e < a + m → test e ≡ true → ((k : ℕ) → a ≤ k → k < e → test k ≡ false) → find test (range_with_len a m) ≡ Some e
found_from test a zero e low high passes before = absurd (omega arith)
found_from test a (suc m) e low high passes before =
    elim (cases_order a e) [
      | inl same ↦ rw (same, passes)
      | inr (inl below) ↦ rw (before a (omega arith) below) (found_from test (a + 1) m e (omega arith) (omega arith) passes (λ k h. before k (omega arith)))
      | inr (inr above) ↦ absurd (omega arith)
    ]

none_from : (test : ℕ → Bool) (a m : ℕ) → ((k : ℕ) → a ≤ k → k < a + m → test k ≡ false) → find test (range_with_len a m) ≡ None
none_from test a zero fails = refl
none_from test a (suc m) fails = rw (fails a (omega arith) (omega arith)) (none_from test (a + 1) m (λ k h below. fails k (omega arith) (omega arith)))

-- a number that passes is the least one if no smaller number passes
pub least_below-found : (test : ℕ → Bool) (n e : ℕ) → e < n → test e ≡ true → ((k : ℕ) → k < e → test k ≡ false) → least_below test n ≡ Some e
unfolding least_below
least_below-found test n e h passes before = found_from test 0 n e (omega arith) (omega arith) passes (λ k low below. before k below)

-- there is no least number if none passes
pub least_below-none : (test : ℕ → Bool) (n : ℕ) → ((k : ℕ) → k < n → test k ≡ false) → least_below test n ≡ None
unfolding least_below
least_below-none test n fails = none_from test 0 n (λ k low below. fails k (omega arith))

both_ones : (m n : ℕ) → m < 2 → n < 2 → (min m n == 1) ≡ ((m == 1) && (n == 1))
both_ones zero zero h k = refl
both_ones zero (suc zero) h k = refl
both_ones (suc zero) zero h k = refl
both_ones (suc zero) (suc zero) h k = refl
both_ones (suc (suc m)) n h k = absurd (omega arith)
both_ones zero (suc (suc n)) h k = absurd (omega arith)
both_ones (suc zero) (suc (suc n)) h k = absurd (omega arith)

-- the common bits of two words are the states that both have
pub has_state-bit_and : (a b e : ℕ) → has_state (bit_and a b) e ≡ has_both a b e
has_state-bit_and a b e = ap (λ k. k == 1) (bit_at_and a b e) ∙ both_ones (bit_at a e) (bit_at b e) (bit_at-lt a e) (bit_at-lt b e)

-- words without common bits have no least common state
pub common_none : (a b : ℕ) → bit_and a b ≡ 0 → least_below (has_both a b) 64 ≡ None
common_none a b h = least_below-none (has_both a b) 64 (λ k below. sym (has_state-bit_and a b k) ∙ ap (λ w. has_state w k) h ∙ ap (λ m. m == 1) (bit_at-zero k))

-- the least common state is the lowest common bit
pub common_least : (a b : ℕ) → 0 < bit_and a b → bit_and a b < 2 ^ 64 → least_below (has_both a b) 64 ≡ Some (trailing_zeros w64 (bit_and a b))
common_least a b some fits =
    let p = bit_at-trailing_zeros w64 (bit_and a b) some fits in
    least_below-found _ _ _ p.0 (sym (has_state-bit_and _ _ _) ∙ ap (λ m. m == 1) p.1) (λ k below. sym (has_state-bit_and _ _ _) ∙ ap (λ m. m == 1) (p.2 k below))

-- the rules for the search for a common state
pub ruleset commons = (common_none, common_least)
