use Rattle.roman_radix.proofs.Common.{◌-◌, arith, refl, get_or-set_other, get_or-set_same, get_or-take, length-set, cases_eq}
use Rattle.roman_radix.proofs.Strides.{length_first, product_none, product_more, strides_all, zero_at}
use Rattle.roman_radix.proofs.RowLemmas.{product_drop-le}
use Rattle.roman_radix.proofs.shape.strides_over.Goals as goal

pub loop-k-init : goal.loop-k-init
loop-k-init c = record { within = omega arith; product = product_none c.args.components c.args.sizes.now; long = refl; table = λ i low high. absurd (omega arith); rest = λ i past. zero_at 32 _ i refl }

-- the product of some of the sizes doesn't overflow
pub overflow_mul-stride : goal.overflow_mul-stride
overflow_mul-stride c = grind (arith, get_or-take, length_first, product_more, (product_drop-le _ 0 (c.loop-k.k - 1) c.requires.table.positive))

pub loop-k-preserved : goal.loop-k-preserved
loop-k-preserved c = grind (arith, cases_eq, get_or-set_other, get_or-set_same, get_or-take, length-set, length_first, product_more)

pub returns-clause-strides : goal.returns-clause-strides
returns-clause-strides c = grind (arith, length_first, strides_all)
