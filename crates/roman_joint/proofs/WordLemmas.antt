-- The lanes of words that are combined.
use Rattle.roman_joint.proofs.Common.{on_full, on_full_past, on_zero, LosesMoving, Move, bit_or, fold_l, le_or_l, le_or_r, refl, zero, suc, on_and, list_any_more, ◌≡◌, ℕ, ◌+◌, ◌-◌, ◌*◌, ◌/◌, ◌%◌, ◌^◌, ◌<◌, Bool, true, false, not, ◌&&◌, ◌||◌, List, [], ◌∷◌, length, take, get_or, inl, inr, sym, ap, ◌∙◌, arith, eqb, bit_and, and-true, or-false, bit_at, list_any, cases_lt, lt-ltb, le-ltb, shr_and_one, bit_at-zero, bit_at_cat_low, bit_at_cat_high, bit_at_above, is_on, shr-shr, pow_pos}
pub use Rattle.roman_lanes.proofs.CallerLemmas.{on_set_same, on_set_other}

-- the first lanes of a full word
pub ruleset first_lanes = (cases_lt, le-ltb, lt-ltb, on_full, on_full_past)

pub on_shr : (a d i j : ℕ) → j ≡ d + i → is_on (a / 2 ^ d) i ≡ is_on a j
unfolding is_on
on_shr a d i j e = ap (λ n. eqb n 1) (sym (shr_and_one (a / 2 ^ d) i) ∙ (ap (λ n. bit_and n 1) (shr-shr a d i) ∙ (shr_and_one a (d + i) ∙ ap (bit_at a) (sym e))))

-- the lanes of a word that is shifted up are the lanes of the product
on_product : (a d i : ℕ) → i < 64 → is_on (a * 2 ^ d % 2 ^ 64) i ≡ is_on (a * 2 ^ d + 0) i
unfolding is_on
on_product a d i h =
    let whole : a * 2 ^ d + 0 ≡ (a * 2 ^ d / 2 ^ 64) * 2 ^ 64 + a * 2 ^ d % 2 ^ 64 = omega arith in
    ap (λ n. eqb n 1) (sym (ap (λ n. bit_at n i) whole ∙ bit_at_cat_low (a * 2 ^ d / 2 ^ 64) 64 (a * 2 ^ d % 2 ^ 64) i h))

pub on_shl : (a d i j : ℕ) → i < 64 → i ≡ d + j → is_on (a * 2 ^ d % 2 ^ 64) i ≡ is_on a j
unfolding is_on
on_shl a d i j h e =
    let place : i - d ≡ j = omega arith in
    on_product a d i h ∙ ap (λ n. eqb n 1) (bit_at_cat_high a d 0 i (pow_pos d) (omega arith) ∙ ap (bit_at a) place)

pub on_below : (a d i : ℕ) → i < d → is_on (a * 2 ^ d % 2 ^ 64) i ≡ false
unfolding is_on
on_below a d i l = elim (cases_lt i 64) [
  | inl h ↦ on_product a d i h ∙ ap (λ n. eqb n 1) (bit_at_cat_low a d 0 i l ∙ bit_at-zero i)
  | inr past ↦ let small : a * 2 ^ d % 2 ^ 64 < 2 ^ 64 = omega arith in ap (λ n. eqb n 1) (bit_at_above (a * 2 ^ d % 2 ^ 64) 64 i small past)
]

-- whether no element so far passes, with one more element
pub none_after : {X : Type 0} (test : X → Bool) (xs : List X) (i : ℕ) (d : X) (good alive next : Bool) → i < length xs →
    alive ≡ (good && not (list_any test (take i xs))) → next ≡ (alive && not (test (get_or xs i d))) → next ≡ (good && not (list_any test (take (i + 1) xs)))
none_after test xs i d good alive next l before here = grind (arith, list_any_more test xs i d l)

-- the alive lanes with one more word
pub alive_more : {X : Type 0} (test : X → Bool) (xs : List X) (i : ℕ) (d : X) (good alive word lane : ℕ) → i < length xs →
    is_on alive lane ≡ (is_on good lane && not (list_any test (take i xs))) → is_on word lane ≡ not (test (get_or xs i d)) →
    is_on (bit_and alive word) lane ≡ (is_on good lane && not (list_any test (take (i + 1) xs)))
alive_more test xs i d good alive word lane l before here =
    none_after test xs i d (is_on good lane) (is_on alive lane) (is_on (bit_and alive word) lane) l before (on_and alive word lane ∙ ap (λ b. is_on alive lane && b) here)

-- the test of the only element
pub any_one : {X : Type 0} (p : X → Bool) (xs : List X) (d : X) → length xs ≡ 1 → list_any p xs ≡ p (get_or xs 0 d)
any_one p [] d one = absurd (omega (arith, one))
any_one p (x ∷ []) d one = or-false (p x)
any_one p (x ∷ y ∷ ys) d one = absurd (omega (arith, one))

-- without a test the value stays
pub all_pass : (b : Bool) → b ≡ (b && true)
all_pass b = sym (and-true b)

clear_with : (word : ℕ) (words : List ℕ) → word ≡ 0 → ((i : ℕ) → get_or words i 0 ≡ 0) → (i : ℕ) → get_or (word ∷ words) i 0 ≡ 0
clear_with word words first rest zero = first
clear_with word words first rest (suc i) = rest i

-- words that are combined to 0 are 0
pub all_clear : (words : List ℕ) (first : ℕ) → fold_l bit_or first words ≡ 0 → (first ≡ 0) × ((i : ℕ) → get_or words i 0 ≡ 0)
all_clear [] first clear = (clear, λ i. refl)
all_clear (word ∷ words) first clear =
    let (both, rest) = all_clear words (bit_or first word) clear in
    (omega (arith, both, le_or_l first word), clear_with word words (omega (arith, both, le_or_r first word)) rest)

-- a word without lanes loses none
pub loses_nothing : (some : ℕ) (moves : List Move) (alive word : ℕ) → word ≡ 0 → LosesMoving some moves alive word word
loses_nothing some moves alive word clear =
    let off : (lane : ℕ) → is_on word lane ≡ false = λ lane. ap (λ w. is_on w lane) clear ∙ on_zero lane in
    record { each = λ lane l within. grind (arith, (off lane)); none = λ lane none. none }
