-- Decimal texts.
use Rattle.std.specs.Prelude.{◌≡◌, ◌≢◌, ℕ, ◌<◌, ◌≤◌, List, length, take, slice_index}
use Rattle.std.specs.Int.{IsOutOfRange}
use Rattle.std.specs.Str.Parse.{AllDigits, digits_value}
use Rattle.roman_check.specs.declared.numbers.TheConstants.{MOST_DIGITS}

-- one to ten bytes without a leading zero
pub record IsTrim (text : List ℕ) : Type 0 where
  pub some : 0 < length text
  pub few : length text ≤ MOST_DIGITS
  pub first : 1 < length text → slice_index text 0 ≢ 48

-- the bytes begin with i digits, at most ten, followed by the byte stop
pub record IsNumberTo (stop : ℕ) (bytes : List ℕ) (i : ℕ) : Type 0 where
  pub few : i ≤ MOST_DIGITS
  pub within : i < length bytes
  pub digits : AllDigits 10 (take i bytes)
  pub stops : slice_index bytes i ≡ stop

-- the bytes begin with i digits of this value, and with no more unless there are ten
pub record HasDigits (bytes : List ℕ) (value i : ℕ) : Type 0 where
  pub few : i ≤ MOST_DIGITS
  pub within : i ≤ length bytes
  pub digits : AllDigits 10 (take i bytes)
  pub said : value ≡ digits_value 10 (take i bytes)
  pub ends : i < length bytes → i < MOST_DIGITS → IsOutOfRange 48 57 (slice_index bytes i)
