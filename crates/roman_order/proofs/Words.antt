-- Flags, 64 to a word.
use Rattle.roman_order.proofs.Common.{◌≡◌, ◌≢◌, ℕ, zero, ◌+◌, ◌-◌, ◌*◌, ◌/◌, ◌%◌, ◌^◌, ◌<◌, ◌≤◌, false, List, ◌++◌, length, get_or, replicate, ap, sym, ◌∙◌, inl, inr, arith, ltb, take, drop, bit_and, set, cases_eq, cases_lt, lt-ltb, le-ltb, get_or-set_same, get_or-set_other, get_or-replicate, length-replicate, get_or_past, full_word, on_zero, on_ones, on_ones_above, on_clear_other, on_clear_same, on_set_other, on_set_same, is_on, has_flag, bit_not, w64, take-append_seam, rewritten}

-- a blank table has zeros at each place, also past its end
pub blank_at : (n i : ℕ) → get_or (replicate n zero) i 0 ≡ 0
blank_at n i = grind (arith, cases_lt, get_or-replicate, get_or_past, length-replicate)

-- ---- a word that is written

pub has_flag-written : (words : List ℕ) (i w p : ℕ) → i < length words → p / 64 ≡ i → has_flag (set words i w) p ≡ is_on w (p % 64)
unfolding has_flag is_on
has_flag-written words i w p h e = ap (λ j. is_on (get_or (set words i w) j 0) (p % 64)) e ∙ ap (λ v. is_on v (p % 64)) (get_or-set_same words i w 0 h)

-- a word with one changed bit, that of the number p, leaves all other flags unchanged
pub has_flag-others : (words : List ℕ) (i w p q : ℕ) → i < length words → p / 64 ≡ i →
    ((k : ℕ) → k < 64 → k ≢ p % 64 → is_on w k ≡ is_on (get_or words i 0) k) → q ≢ p →
    has_flag (set words i w) q ≡ has_flag words q
unfolding has_flag is_on
has_flag-others words i w p q h e same ne = grind (arith, cases_eq, get_or-set_other, has_flag-written)

pub has_flag-at : (words : List ℕ) (i t : ℕ) → t < 64 → has_flag words (i * 64 + t) ≡ is_on (get_or words i 0) t
unfolding has_flag is_on
has_flag-at words i t within = grind arith

-- the other flags of words of which one bit is cleared
pub has_flag-cleared : (words : List ℕ) (i t q : ℕ) → i < length words → t < 64 → q ≢ i * 64 + t → has_flag (set words i (bit_and (get_or words i 0) (bit_not w64 (1 * 2 ^ t % 2 ^ 64)))) q ≡ has_flag words q
has_flag-cleared words i t q h low ne = let bit : (i * 64 + t) % 64 ≡ t = omega arith in grind (arith, (has_flag-others words i (bit_and (get_or words i 0) (bit_not w64 (1 * 2 ^ t % 2 ^ 64))) (i * 64 + t) q h), on_clear_other)

-- ---- words without a bit have no flag

pub flag_off : (words : List ℕ) (p : ℕ) → get_or words (p / 64) 0 ≡ 0 → has_flag words p ≡ false
unfolding has_flag is_on
flag_off words p none = ap (λ w. is_on w (p % 64)) none ∙ on_zero (p % 64)

pub no_flags : (n p : ℕ) → has_flag (replicate n zero) p ≡ false
no_flags n p = flag_off (replicate n zero) p (blank_at n (p / 64))

-- ---- the flags below a number

pub has_flag-front : (words : List ℕ) (end : ℕ) → ((i : ℕ) → i < end / 64 → get_or words i 0 ≡ 2 ^ 64 - 1) → get_or words (end / 64) 0 ≡ 2 ^ (end % 64) - 1 → ((i : ℕ) → end / 64 < i → get_or words i 0 ≡ 0) →
    (p : ℕ) → has_flag words p ≡ ltb p end
unfolding has_flag is_on
has_flag-front words end whole part rest p = elim (cases_lt (p / 64) (end / 64)) [
  | inl h ↦ ap (λ w. is_on w (p % 64)) (whole (p / 64) h) ∙ (on_ones 64 (p % 64) (omega arith) ∙ sym (lt-ltb p end (omega arith)))
  | inr h ↦ grind (arith, cases_eq, cases_lt, on_ones, lt-ltb, on_ones_above, le-ltb, on_zero)
]

-- ---- marks that were lent

-- new words of the same number as the marks replace all of them
pub rewritten_whole : (xs ys : List ℕ) → length ys ≡ length xs → rewritten xs ys ≡ ys
rewritten_whole xs ys e = ap (λ n. take n (ys ++ drop (length ys) xs)) (sym e) ∙ take-append_seam ys (drop (length ys) xs)

-- a flag that is set
pub ruleset set_rules = (get_or-set_same, has_flag-others, has_flag-written, on_set_other, on_set_same)

-- a flag that is cleared
pub ruleset clear_rules = (get_or-set_same, has_flag-at, has_flag-cleared, has_flag-written, on_clear_same)

-- the words with the flags below a number
pub ruleset front_rules = (full_word, get_or-set_other, get_or-set_same, has_flag-front, set)
