-- Decimal texts.
use Rattle.roman_check.proofs.Common.{◌≡◌, ◌≢◌, ℕ, ◌+◌, ◌-◌, ◌*◌, ◌^◌, ◌<◌, ◌≤◌, List, length, take, get_or, decimal, arith, subst, sym, ap, ◌∙◌, inl, inr, length-take-le, AllDigits, digits_value, cases_lt, cases_order, get_or-take, take_all, IsNumberTo, HasDigits, IsTrim, length-decimal-le, decimal_is_IsNumeral, first_decimal, decimal-digits_value, IsInRange, IsOutOfRange, digit_value, digit_value_digit, IsNumeralModel, numerals_by_value, tells_digits, digit_at, digits_value_short, digits_more, digits_value_more}

own : IsNumeralModel (AllDigits 10) (digits_value 10)
own = numerals_by_value (AllDigits 10) tells_digits

-- a byte that isn't a digit
pub no_digit : (ds : List ℕ) (i : ℕ) → i < length ds → IsOutOfRange 48 57 (get_or ds i 0) → AllDigits 10 ds → ⊥
no_digit ds i l out all = grind (arith, digit_at)

-- one more digit
pub digits_step : (ds : List ℕ) (i d : ℕ) → i < length ds → IsInRange 48 57 (get_or ds i 0) → d ≡ get_or ds i 0 - 48 → AllDigits 10 (take i ds) →
    AllDigits 10 (take (i + 1) ds) × (digits_value 10 (take i ds) * 10 + d ≡ digits_value 10 (take (i + 1) ds))
digits_step ds i d l digit is all =
    let low : 48 ≤ get_or ds i 0 = digit.0 in
    let high : get_or ds i 0 ≤ 57 = digit.1 in
    let value : digit_value (get_or ds i 0) + 48 ≡ get_or ds i 0 = digit_value_digit (get_or ds i 0) digit in
    (digits_more 10 ds i l all (omega arith), ap (λ n. digits_value 10 (take i ds) * 10 + n) (omega arith) ∙ sym (digits_value_more 10 ds i l))

-- the value of at most ten digits is below 10 ^ 10
pub digits_below : (ds : List ℕ) (i : ℕ) → i ≤ length ds → i ≤ 10 → AllDigits 10 (take i ds) → digits_value 10 (take i ds) < 10 ^ 10
digits_below ds i l few all = digits_value_short own (take i ds) 10 all (omega (arith, length-take-le i ds))

-- no digit at the start is a stop byte below the digits
pub no_stop_digit : (stop : ℕ) (line : List ℕ) (i k : ℕ) → stop < 48 → i ≤ length line → AllDigits 10 (take i line) → k < i → get_or line k 0 ≢ stop
no_stop_digit stop line i k low_stop within all l stops =
    let short : length (take i line) ≡ i = length-take-le i line within in
    let digit = digit_at (take i line) k all (omega arith) in
    let low : 48 ≤ get_or (take i line) k 0 = digit.0 in
    let same : get_or (take i line) k 0 ≡ get_or line k 0 = get_or-take i line k 0 l in
    omega arith

-- if no stop byte follows the digits at the start, the bytes don't begin with a number up to that byte
pub no_number_to : (stop : ℕ) (line : List ℕ) (value i j : ℕ) → stop < 48 → HasDigits line value i → (i < length line → get_or line i 0 ≢ stop) → IsNumberTo stop line j → ⊥
no_number_to stop line value i j low has other number = elim (cases_order i j) [
  | inl same ↦ other (omega (arith, number.within)) (ap (λ k. get_or line k 0) same ∙ number.stops)
  | inr (inl less) ↦
      let l : i < length (take j line) = omega (arith, length-take-le j line (omega (arith, number.within))) in
      no_digit (take j line) i l (subst (IsOutOfRange 48 57) (sym (get_or-take j line i 0 less)) (has.ends (omega (arith, number.within)) (omega (arith, number.few)))) number.digits
  | inr (inr more) ↦ no_stop_digit stop line i j low has.within has.digits more number.stops
]

-- A whole number

-- the digits of a decimal text
pub decimal_shape : (n : ℕ) (ds : List ℕ) → n < 2 ^ 32 → decimal n ≡ ds → AllDigits 10 ds × IsTrim ds × (digits_value 10 ds ≡ n)
decimal_shape n ds small e =
    let wide : n < 2 ^ 64 = omega arith in
    let ((some, all), value) = decimal_is_IsNumeral n wide in
    let P : List ℕ → Type 0 = λ ds. AllDigits 10 ds × IsTrim ds × (digits_value 10 ds ≡ n) in
    let first : 1 < length (decimal n) → get_or (decimal n) 0 0 ≢ 48 = λ long zero. elim (cases_lt 0 n) [
      | inl more ↦ omega (arith, first_decimal n more wide)
      | inr none ↦ omega (arith, length-decimal-le 1 n (omega arith) (omega arith) wide)
    ] in
    subst P e (all, record { some = some; few = length-decimal-le 10 n (omega arith) (omega arith) wide; first = first }, value)

-- digits without a leading zero are the text of their value
pub decimal_from_digits : (ds : List ℕ) (n : ℕ) → AllDigits 10 ds → IsTrim ds → digits_value 10 ds ≡ n → decimal n ≡ ds
decimal_from_digits ds n all trim is =
    let value : digits_value 10 ds < 10 ^ 10 = digits_value_short own ds 10 all trim.few in
    let one : get_or ds 0 0 ≡ 48 → length ds ≡ 1 = λ zero. elim (cases_lt 1 (length ds)) [ inl more ↦ absurd (trim.first more zero) | inr less ↦ omega (arith, trim.some) ] in
    ap decimal (sym is) ∙ decimal-digits_value own ds all trim.some one (omega arith)

-- digits whose value is too great, or that aren't trim, aren't the decimal text of a number below the bound
pub no_small_number : (ds : List ℕ) (value bound n : ℕ) → value ≡ digits_value 10 ds → bound < 2 ^ 32 → bound ≤ value → n < bound → decimal n ≢ ds
no_small_number ds value bound n is small large l e =
    let (all, trim, same) = decimal_shape n ds (omega arith) e in
    omega arith

-- bytes that go on after their first digits aren't a decimal text
pub no_decimal : (ds : List ℕ) (value i n : ℕ) → HasDigits ds value i → i < length ds → n < 2 ^ 32 → decimal n ≢ ds
no_decimal ds value i n has more small e =
    let (all, trim, same) = decimal_shape n ds small e in
    no_digit ds i more (has.ends more (omega (arith, trim.few))) all

-- all bytes are digits
pub digits_of_all : (ds : List ℕ) (value i : ℕ) → HasDigits ds value i → length ds ≤ i → AllDigits 10 ds × (value ≡ digits_value 10 ds)
digits_of_all ds value i has past = (subst (AllDigits 10) (take_all i ds past) has.digits, has.said ∙ ap (digits_value 10) (take_all i ds past))
