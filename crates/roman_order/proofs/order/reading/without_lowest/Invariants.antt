use Rattle.roman_order.proofs.Common.{◌≡◌, ℕ, true, drop, is_on, set_lanes}
use Rattle.roman_order.proofs.order.reading.without_lowest.Given as goal

-- the rest is the word without the lanes that were taken
abbrev pub invariant-loop-taken : goal.invariant-loop-taken
invariant-loop-taken l = record {
  rest : set_lanes l.rest ≡ drop l._taken (set_lanes l.word);
  fewer : (lane : ℕ) → is_on l.rest lane ≡ true → is_on l.word lane ≡ true;
}
