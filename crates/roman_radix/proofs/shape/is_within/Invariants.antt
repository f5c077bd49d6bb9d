use Rattle.roman_radix.proofs.Common.{◌≡◌, ◌*◌, ◌^◌, ◌<◌, drop, product_of}
use Rattle.roman_radix.proofs.shape.is_within.Given as goal

abbrev pub invariant-loop-size : goal.invariant-loop-size
invariant-loop-size l = record {
  product : l.pairs * product_of (drop l.size-index l.sizes) ≡ l.target * l.env * product_of l.sizes;
  fits : l.pairs < 2 ^ 40;
}
