-- Numbers by their decimal digits: one more digit, and the digits of a product.
use Rattle.roman_start.proofs.Common.{◌≡◌, ℕ, ◌+◌, ◌*◌, ◌/◌, ◌%◌, ◌^◌, ◌<◌, min, List, [], ◌∷◌, ◌++◌, length, length-append, get_or, take, sym, ap, ap₂, ◌∙◌, arith, add-one, zero, suc, nat_le, length-take-le, take_more, AllDigits, digits_value, product_of, AreDigits, number_with_digits, pow-zero, pow-suc, min-eq_left, min-eq_right, leb-true, leb-false, digit_value, digits_value_push, All-push, digit_value_digit, by_test}

number_push : (ds : List ℕ) (d : ℕ) → number_with_digits (ds ++ d ∷ []) ≡ number_with_digits ds + d * 10 ^ length ds
number_push [] d = omega (arith, ap (λ x. d * x) (pow-zero 10))
number_push (x ∷ ds) d = omega (arith, number_push ds d, ap (λ x. d * x) (pow-suc 10 (length ds)))

-- the value of one more digit
number_more : (ds : List ℕ) (k d other : ℕ) → k < length ds → d ≡ get_or ds k other → number_with_digits (take (k + 1) ds) ≡ number_with_digits (take k ds) + d * 10 ^ k
number_more ds k d other l at =
    ap number_with_digits (take_more ds k other l) ∙ number_push (take k ds) _ ∙ ap₂ (λ (d n : ℕ). number_with_digits (take k ds) + d * 10 ^ n) (sym at) (length-take-le k ds (omega arith))

-- the last digit of the carry is appended to the digits, and the rest is the new carry
pub carry_step : (ds : List ℕ) (s total : ℕ) → number_with_digits ds + s * 10 ^ length ds ≡ total →
    number_with_digits (ds ++ (s % 10) ∷ []) + s / 10 * 10 ^ length (ds ++ (s % 10) ∷ []) ≡ total
carry_step ds s total h =
    let p = 10 ^ length ds in
    let power : 10 ^ length (ds ++ (s % 10) ∷ []) ≡ p * 10 = ap (λ k. 10 ^ k) (length-append ds ((s % 10) ∷ []) ∙ add-one (length ds)) ∙ pow-suc 10 (length ds) in
    let parts : s ≡ s / 10 * 10 + s % 10 = omega arith in
    omega (arith, h, number_push ds (s % 10), ap (λ x. s / 10 * x) power, ap (λ x. x * p) parts)

-- multiplying one digit by a factor
pub times_step : (ds items : List ℕ) (k d other f carry : ℕ) → k < length ds → d ≡ get_or ds k other → length items ≡ k → number_with_digits items + carry * 10 ^ length items ≡ number_with_digits (take k ds) * f →
    number_with_digits items + (d * f + carry) * 10 ^ length items ≡ number_with_digits (take (k + 1) ds) * f
times_step ds items k d other f carry l at long h =
    let more = number_more ds k d other l at ∙ ap (λ (n : ℕ). number_with_digits (take k ds) + d * 10 ^ n) (sym long) in
    omega (arith, h, ap (λ x. x * f) more)

-- The text of digits

pub all_digits_push : (bs : List ℕ) (c : ℕ) → AllDigits 10 bs → digit_value c < 10 → AllDigits 10 (bs ++ c ∷ [])
all_digits_push [] c h l = (l, tt)
all_digits_push (b ∷ bs) c h l = (h.0, all_digits_push bs c h.1 l)

pub glyph_value : (d : ℕ) → d < 10 → digit_value (48 + d) ≡ d
glyph_value d l = omega (arith, digit_value_digit (48 + d) (omega arith, omega arith))

-- the text of the digits from place i on is the text of the digits after place i, followed by digit i
pub text_step : (ds bs : List ℕ) (i d other : ℕ) → i < length ds → d ≡ get_or ds i other → d < 10 → digits_value 10 bs * 10 ^ (i + 1) + number_with_digits (take (i + 1) ds) ≡ number_with_digits ds →
    digits_value 10 (bs ++ (48 + d) ∷ []) * 10 ^ i + number_with_digits (take i ds) ≡ number_with_digits ds
text_step ds bs i d other l at low h =
    let power : 10 ^ (i + 1) ≡ 10 ^ i * 10 = rw add-one (pow-suc 10 i) in
    let value : digits_value 10 (bs ++ (48 + d) ∷ []) ≡ digits_value 10 bs * 10 + d = digits_value_push 10 bs (48 + d) ∙ ap (λ v. digits_value 10 bs * 10 + v) (glyph_value d low) in
    omega (arith, h, number_more ds i d other l at, ap (λ x. digits_value 10 bs * x) power, ap (λ x. x * 10 ^ i) value)

-- Products

pub product_push : (ns : List ℕ) (n : ℕ) → product_of (ns ++ n ∷ []) ≡ product_of ns * n
product_push [] n = omega arith
product_push (m ∷ ns) n = rw (product_push ns n) (omega arith)

pub product_more : (ns : List ℕ) (k n other : ℕ) → k < length ns → n ≡ get_or ns k other → product_of (take (k + 1) ns) ≡ product_of (take k ns) * n
product_more ns k n other l at = ap product_of (take_more ns k other l) ∙ product_push _ _ ∙ ap (λ (n : ℕ). product_of (take k ns) * n) (sym at)

-- multiplying a product that is cut off at a limit gives the whole product, cut off at it
cut_step : (p n most : ℕ) → min (min p most * n) most ≡ min (p * n) most
cut_step p zero most = omega arith
cut_step p (suc n) most = by_test (nat_le p most) (λ t. grind (arith, min-eq_left, leb-true)) (λ f. grind (arith, min-eq_right, leb-false))

-- each pushed digit is a decimal digit
pub digits_push : (ds : List ℕ) (s : ℕ) → AreDigits ds → AreDigits (ds ++ (s % 10) ∷ [])
digits_push ds s h = All-push (λ d. d < 10) ds (s % 10) h (omega arith)

-- one more factor of a product that is cut off at a limit
pub cut_more : (ns : List ℕ) (k n other most cut : ℕ) → k < length ns → n ≡ get_or ns k other → cut ≡ min (product_of (take k ns)) most → min (cut * n) most ≡ min (product_of (take (k + 1) ns)) most
cut_more ns k n other most cut l at is = ap (λ (c : ℕ). min (c * n) most) is ∙ (cut_step _ n most ∙ sym (ap (λ (p : ℕ). min p most) (product_more ns k n other l at)))

-- the carry stays small
pub small_carry : (d f carry : ℕ) → d < 10 → f < 2 ^ 32 → carry < 2 ^ 40 → (d * f + carry) / 10 < 2 ^ 40
small_carry d f carry digit factor small = grind arith

pub ruleset times_steps = (carry_step, times_step, digits_push, small_carry, length-append, add-one)
