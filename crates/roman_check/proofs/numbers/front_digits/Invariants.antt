use Rattle.roman_check.proofs.Common.{◌≡◌, take, AllDigits, digits_value}
use Rattle.roman_check.proofs.numbers.front_digits.Given as goal

-- the bytes so far are digits, and their value is computed
abbrev pub invariant-loop-i : goal.invariant-loop-i
invariant-loop-i l = record {
  digits : AllDigits 10 (take l.i l.bytes);
  value : l.value ≡ digits_value 10 (take l.i l.bytes);
}
