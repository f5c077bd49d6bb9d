use Rattle.roman_start.proofs.Common.{◌≡◌, ◌+◌, ◌*◌, ◌^◌, ◌<◌, length, take, AreDigits, number_with_digits}
use Rattle.roman_start.proofs.products.times.Given as goal

-- the digits so far, and the carry
abbrev pub invariant-loop-digit : goal.invariant-loop-digit
invariant-loop-digit l = record {
  digits : AreDigits l.product.items;
  long : length l.product.items ≡ l.digit-index;
  carry : l.carry < 2 ^ 40;
  value : number_with_digits l.product.items + l.carry * 10 ^ length l.product.items ≡ number_with_digits (take l.digit-index l.digits) * l.factor;
}
