-- The states of a word, one by one.
use Rattle.roman_parts.proofs.Common.{◌≡◌, ℕ, zero, suc, ◌+◌, ◌*◌, ◌%◌, ◌^◌, ◌<◌, ◌≤◌, ◌==◌, Bool, true, false, cond, [], ◌∷◌, length, ap, sym, refl, inl, inr, arith, length-append, ◌≢◌, filter, w64, bit_not, trailing_zeros, cases_order, cond_both, range_with_len, bit_at-zero, bit_at-trailing_zeros, bit_at_clear_same, bit_at_clear_other, has_state, states_below, states_of, states_below-zero, states_below-suc, bit_and, bits}

-- tests that agree keep the same numbers
kept_same : (p q : ℕ → Bool) (a m : ℕ) → ((i : ℕ) → a ≤ i → i < a + m → q i ≡ p i) → filter p (range_with_len a m) ≡ filter q (range_with_len a m)
kept_same p q a zero same = refl
kept_same p q a (suc m) same =
    rw (same a (omega arith) (omega arith)) (ap (λ xs. cond (p a) (a ∷ xs) xs) (kept_same p q (a + 1) m (λ i low high. same i (omega arith) (omega arith))))

-- the first number that passes, followed by the numbers that pass after it
first_kept : (p q : ℕ → Bool) (first : ℕ) → ((i : ℕ) → i < first → p i ≡ false) → p first ≡ true → q first ≡ false →
    (a m : ℕ) → ((i : ℕ) → i < a + m → i ≢ first → q i ≡ p i) → a ≤ first → first < a + m → filter p (range_with_len a m) ≡ first ∷ filter q (range_with_len a m)
first_kept p q first before at gone a zero others low high = absurd (omega arith)
first_kept p q first before at gone a (suc m) others low high = elim (cases_order a first) [
  | inl same ↦ rw (same, at, gone) (ap (λ xs. first ∷ xs) (kept_same p q (first + 1) m (λ i past small. others i (omega arith) (λ e. omega arith))))
  | inr (inl less) ↦
      rw (others a (omega arith) (λ e. omega arith), before a less) (first_kept p q first before at gone (a + 1) m (λ i small ne. others i (omega arith) ne) (omega arith) (omega arith))
  | inr (inr more) ↦ absurd (omega arith)
]

length-states_below : (p : ℕ → Bool) (bound : ℕ) → length (states_below p bound) ≤ bound
length-states_below p zero = rw (states_below-zero p) (omega arith)
length-states_below p (suc n) = grind (arith, cond_both, states_below-suc, length-append, (length-states_below p n))

-- the lowest state, followed by the states of the word without it
pub states_of-next : (n : ℕ) → 0 < n → n < 2 ^ 64 →
    states_of n ≡ trailing_zeros w64 n ∷ states_of (bit_and n (bit_not w64 (1 * 2 ^ trailing_zeros w64 n % 2 ^ bits w64)))
unfolding states_below
states_of-next n some fits =
    let (within, at, before) = bit_at-trailing_zeros w64 n some fits in
    first_kept _ _ _ (λ i less. ap (λ b. b == 1) (before i less)) (ap (λ b. b == 1) at)
    (ap (λ b. b == 1) (bit_at_clear_same w64 n (trailing_zeros w64 n) within)) 0 64
    (λ i less ne. ap (λ b. b == 1) (bit_at_clear_other w64 n (trailing_zeros w64 n) within i less ne)) (omega arith) within

pub states_of-zero : states_of 0 ≡ []
unfolding states_below
states_of-zero = kept_same (has_state 0) (λ _. false) 0 64 (λ i low high. ap (λ b. b == 1) (sym (bit_at-zero i)))

pub length-states_of : (n : ℕ) → length (states_of n) ≤ 64
length-states_of n = length-states_below (has_state n) 64
