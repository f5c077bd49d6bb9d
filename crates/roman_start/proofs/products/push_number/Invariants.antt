use Rattle.roman_start.proofs.Common.{◌≡◌, ◌+◌, ◌*◌, ◌^◌, length, AreDigits, number_with_digits}
use Rattle.roman_start.proofs.products.push_number.Given as goal

-- the digits so far, and the rest of the number
abbrev pub invariant-loop-rest : goal.invariant-loop-rest
invariant-loop-rest l = record {
  digits : AreDigits l.digits.items;
  value : number_with_digits l.digits.items + l.rest * 10 ^ length l.digits.items ≡ number_with_digits l.fn.digits.items + l.fn.number * 10 ^ length l.fn.digits.items;
}

abbrev pub decreases-loop-rest : goal.decreases-loop-rest
decreases-loop-rest l = l.rest
