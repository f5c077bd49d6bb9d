use Rattle.roman_radix.proofs.Common.{◌≡◌, ◌≤◌, take, drop, product_of}
use Rattle.roman_radix.proofs.shape.lanes_over.Given as goal

-- the pairs over the components so far fit in a row
abbrev pub invariant-loop-low : goal.invariant-loop-low
invariant-loop-low l = record {
  within : l.low ≤ l.components;
  product : l.lanes ≡ product_of (drop l.low (take l.components l.sizes));
  few : l.lanes ≤ 64;
}

abbrev pub decreases-loop-low : goal.decreases-loop-low
decreases-loop-low l = l.low
