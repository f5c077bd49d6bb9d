-- The numbers of workers and of requests that words form.
use Rattle.std.specs.Prelude.{ℕ, ◌+◌, ◌-◌, ◌*◌, ◌&&◌, Bool, List, [], ◌∷◌, Option, None, Some, codes, nat_le, if◌then◌else◌}
use Rattle.std.specs.Str.{bytes_eq}
use Rattle.roman_cost.specs.declared.limits.TheConstants.{MAX_REQUESTS}

-- the byte is a digit other than 0
abbrev pub is_first_digit : ℕ → Bool
is_first_digit byte = nat_le 49 byte && nat_le byte 57

-- the byte is a digit
abbrev pub is_digit : ℕ → Bool
is_digit byte = nat_le 48 byte && nat_le byte 57

-- ---- workers

-- the number of a word of one digit, from 1 to 9
abbrev pub digit_of : List ℕ → Option ℕ
digit_of [] = None
digit_of (byte ∷ []) = if is_first_digit byte then Some (byte - 48) else None
digit_of (byte ∷ another ∷ more) = None

-- the number of a word from `1` to `9`, or of `10`
abbrev pub workers_of : List ℕ → Option ℕ
workers_of word = if bytes_eq word (codes "10") then Some 10 else digit_of word

-- ---- requests

-- the number that two digits form
abbrev pub two_digits : ℕ → ℕ → ℕ
two_digits tens ones = (tens - 48) * 10 + (ones - 48)

-- the number of a word from `1` to `64`; it has one or two digits, the first of which isn't 0
abbrev pub request_count_of : List ℕ → Option ℕ
request_count_of [] = None
request_count_of (digit ∷ []) = if is_first_digit digit then Some (digit - 48) else None
request_count_of (tens ∷ ones ∷ []) = if is_first_digit tens && is_digit ones && nat_le (two_digits tens ones) MAX_REQUESTS then Some (two_digits tens ones) else None
request_count_of (tens ∷ ones ∷ another ∷ more) = None
