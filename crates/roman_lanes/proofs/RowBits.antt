-- The lanes of words that are combined.
use Rattle.roman_lanes.proofs.Common.{◌≡◌, ◌≢◌, ℕ, zero, ◌-◌, ◌*◌, ◌/◌, ◌%◌, ◌^◌, ◌<◌, ◌≤◌, true, false, not, ◌&&◌, ◌||◌, sym, ap, ◌∙◌, arith, eqb, bit_and, bit_at, bit_not, w64, cases_lt, eq-eqb, bit_at_and, bit_at_or, bit_at_not, bit_at-lt, bit_at-zero, bit_at_above, bit_at_ones, bit_at_ones_above, bit_at-pow_same, bit_at-pow_other, bit_at_set_same, bit_at_set_other, bit_at_clear_same, bit_at_clear_other, ones_shr, shr_and_one, is_on, cond, cases_eq, cond-true, cond-false, ne_eqb}
use Rattle.std.specs.Prelude.{bit_or}

pub bit_is : (word lane : ℕ) → bit_at word lane ≡ cond (is_on word lane) 1 0
unfolding is_on
bit_is word lane = grind (arith, bit_at-lt, cases_eq, cond-false, cond-true, eq-eqb, ne_eqb)

pub on_zero : (i : ℕ) → is_on zero i ≡ false
unfolding is_on
on_zero i = ap (λ n. eqb n 1) (bit_at-zero i)

pub on_ones : (k i : ℕ) → i < k → is_on (2 ^ k - 1) i ≡ true
unfolding is_on
on_ones k i h = eq-eqb (bit_at (2 ^ k - 1) i) 1 (bit_at_ones k i h)

pub on_ones_above : (k i : ℕ) → k ≤ i → is_on (2 ^ k - 1) i ≡ false
unfolding is_on
on_ones_above k i h = ap (λ n. eqb n 1) (bit_at_ones_above k i h)

-- the word with the lowest `lanes` bits set, as it is computed
pub full_word : (lanes : ℕ) → lanes ≤ 64 → (2 ^ 64 - 1) / 2 ^ (64 - lanes) ≡ 2 ^ lanes - 1
full_word lanes few =
    let rest : 64 - (64 - lanes) ≡ lanes = omega arith in
    ones_shr 64 (64 - lanes) (omega arith) ∙ ap (λ n. 2 ^ n - 1) rest

pub on_full : (lanes lane : ℕ) → lanes ≤ 64 → lane < lanes → is_on ((2 ^ 64 - 1) / 2 ^ (64 - lanes)) lane ≡ true
on_full lanes lane few within = ap (λ word. is_on word lane) (full_word lanes few) ∙ on_ones lanes lane within

pub on_full_past : (lanes lane : ℕ) → lanes ≤ 64 → lanes ≤ lane → is_on ((2 ^ 64 - 1) / 2 ^ (64 - lanes)) lane ≡ false
on_full_past lanes lane few past = ap (λ word. is_on word lane) (full_word lanes few) ∙ on_ones_above lanes lane past

pub on_and : (a b i : ℕ) → is_on (bit_and a b) i ≡ (is_on a i && is_on b i)
unfolding is_on
on_and a b i = grind (arith, bit_at_and, bit_at-lt)

pub on_or : (a b i : ℕ) → is_on (bit_or a b) i ≡ (is_on a i || is_on b i)
unfolding is_on
on_or a b i = grind (arith, bit_at_or, bit_at-lt)

pub on_not : (a i : ℕ) → a < 2 ^ 64 → i < 64 → is_on (bit_not w64 a) i ≡ not (is_on a i)
unfolding is_on
on_not a i h l = grind (arith, (bit_at_not w64 a i h l), bit_at-lt)

-- the word with one lane set
pub on_pow_same : (i : ℕ) → is_on (2 ^ i) i ≡ true
unfolding is_on
on_pow_same i = eq-eqb (bit_at (2 ^ i) i) 1 (bit_at-pow_same i)

pub on_pow_other : (i j : ℕ) → j ≢ i → is_on (2 ^ i) j ≡ false
unfolding is_on
on_pow_other i j ne = ap (λ n. eqb n 1) (bit_at-pow_other i j ne)

-- the lanes of one word that aren't lanes of another
pub on_less : (a b i : ℕ) → b < 2 ^ 64 → i < 64 → is_on (bit_and a (bit_not w64 b)) i ≡ (is_on a i && not (is_on b i))
on_less a b i h l = grind (arith, on_and, on_not)

-- a lane that is set or cleared
pub on_set_same : (word lane : ℕ) → lane < 64 → is_on (bit_or word (1 * 2 ^ lane % 2 ^ 64)) lane ≡ true
unfolding is_on
on_set_same word lane h = ap (λ n. eqb n 1) (bit_at_set_same w64 word lane h)

pub on_set_other : (word lane j : ℕ) → lane < 64 → j ≢ lane → is_on (bit_or word (1 * 2 ^ lane % 2 ^ 64)) j ≡ is_on word j
unfolding is_on
on_set_other word lane j h ne = ap (λ n. eqb n 1) (bit_at_set_other w64 word lane h j ne)

pub on_clear_same : (word lane : ℕ) → lane < 64 → is_on (bit_and word (bit_not w64 (1 * 2 ^ lane % 2 ^ 64))) lane ≡ false
unfolding is_on
on_clear_same word lane h = ap (λ n. eqb n 1) (bit_at_clear_same w64 word lane h)

pub on_clear_other : (word lane j : ℕ) → lane < 64 → j < 64 → j ≢ lane → is_on (bit_and word (bit_not w64 (1 * 2 ^ lane % 2 ^ 64))) j ≡ is_on word j
unfolding is_on
on_clear_other word lane j h l ne = ap (λ n. eqb n 1) (bit_at_clear_other w64 word lane h j l ne)

-- the test of one bit
pub on_tested : (w i : ℕ) → (bit_and (w / 2 ^ i) 1 ≡ 0 → ⊥) → is_on w i ≡ true
unfolding is_on
on_tested w i some = grind (arith, bit_at-lt, eq-eqb, shr_and_one)

pub off_tested : (w i : ℕ) → bit_and (w / 2 ^ i) 1 ≡ 0 → is_on w i ≡ false
unfolding is_on
off_tested w i none = ap (λ n. eqb n 1) (sym (shr_and_one w i) ∙ none)

-- the lanes of one word that aren't lanes of another, past the 64 bits too
pub on_without : (word other lane : ℕ) → word < 2 ^ 64 → other < 2 ^ 64 → is_on (bit_and word (bit_not w64 other)) lane ≡ (is_on word lane && not (is_on other lane))
unfolding is_on
on_without word other lane l m = grind (arith, cases_lt, on_and, on_not, (bit_at_above word 64 lane l))
