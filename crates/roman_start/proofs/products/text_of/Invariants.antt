use Rattle.roman_start.proofs.Common.{◌≡◌, ◌+◌, ◌*◌, ◌^◌, take, string_bytes, AllDigits, digits_value, number_with_digits}
use Rattle.roman_start.proofs.products.text_of.Given as goal

-- the text of the digits from place i on
abbrev pub invariant-loop-i : goal.invariant-loop-i
invariant-loop-i l = record {
  digits : AllDigits 10 (string_bytes l.text);
  value : digits_value 10 (string_bytes l.text) * 10 ^ l.i + number_with_digits (take l.i l.digits) ≡ number_with_digits l.digits;
}
