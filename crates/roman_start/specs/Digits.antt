-- Numbers by their decimal digits, least significant digit first.
use Rattle.std.specs.Prelude.{ℕ, ◌+◌, ◌*◌, ◌<◌, List, [], ◌∷◌, All}

-- each element is a decimal digit
abbrev pub AreDigits : List ℕ → Type 0
AreDigits digits = All (λ digit. digit < 10) digits

-- the number with these digits, least significant digit first
abbrev pub number_with_digits : List ℕ → ℕ
number_with_digits [] = 0
number_with_digits (digit ∷ digits) = digit + 10 * number_with_digits digits
