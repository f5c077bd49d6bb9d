use Rattle.roman_radix.proofs.Common.{◌-◌, ◌<◌, ℕ, arith, drop, take, get_or-take, length-take-le, product_of}
use Rattle.roman_radix.proofs.Strides.{product_more}
use Rattle.roman_radix.proofs.RowLemmas.{low_is, product_drop-le}
use Rattle.roman_radix.proofs.shape.lanes_over.Goals as goal

pub returns-then-more-gt-MAX_LANES-clause-low : goal.returns-then-more-gt-MAX_LANES-clause-low
returns-then-more-gt-MAX_LANES-clause-low c =
    let ns = take c.args.components c.args.sizes.now in
    let k = c.loop-low.low in
    let more : 64 < product_of (drop (k - 1) ns) = grind (arith, get_or-take, length-take-le, product_more) in
    grind (arith, length-take-le, (low_is ns k c.requires.positive), (λ (j : ℕ). product_drop-le ns j (k - 1) c.requires.positive))

pub returns-then-more-gt-MAX_LANES-clause-lanes : goal.returns-then-more-gt-MAX_LANES-clause-lanes
returns-then-more-gt-MAX_LANES-clause-lanes c = grind (arith, returns-then-more-gt-MAX_LANES-clause-low)

pub loop-low-preserved : goal.loop-low-preserved
loop-low-preserved c = grind (arith, get_or-take, length-take-le, product_more)
