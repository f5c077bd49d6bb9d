use Rattle.roman_start.proofs.Common.{◌≡◌, take, product_of, AreDigits, number_with_digits}
use Rattle.roman_start.proofs.products.product.Given as goal

-- the digits of the product so far
abbrev pub invariant-loop-factor : goal.invariant-loop-factor
invariant-loop-factor l = record {
  digits : AreDigits l.digits.items;
  value : number_with_digits l.digits.items ≡ product_of (take l.factor-index l.factors);
}
