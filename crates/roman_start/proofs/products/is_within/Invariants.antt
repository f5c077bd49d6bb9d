use Rattle.roman_start.proofs.Common.{◌≡◌, ◌-◌, ◌^◌, min, take, product_of}
use Rattle.roman_start.proofs.products.is_within.Given as goal

-- the product so far, cut off at the greatest number of the type
abbrev pub invariant-loop-factor : goal.invariant-loop-factor
invariant-loop-factor l = l.product ≡ min (product_of (take l.factor-index l.factors)) (2 ^ 64 - 1)
