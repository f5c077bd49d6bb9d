use Rattle.roman_check.proofs.Common.{◌∙◌, sym, arith, eqb-true, eq-eqb, false≢true}
use Rattle.roman_check.proofs.DigitLemmas.{decimal_shape, decimal_from_digits, digits_of_all}
use Rattle.roman_check.proofs.numbers.is_number.Goals as goal

pub returns-then-is_trim : goal.returns-then-is_trim
returns-then-is_trim c = (let (all, said) = digits_of_all _ _ _ c.front_digits-value.ensures c.if-end-text.false in grind (arith, decimal_from_digits, decimal_shape, eq-eqb, eqb-true))

pub returns-else-is_trim : goal.returns-else-is_trim
returns-else-is_trim c = (λ t. absurd (false≢true (sym c.if-is_trim.false ∙ t)), λ e. c.is_trim.ensures.1 (decimal_shape c.args.n c.args.text.now c.ranges.n.fits e).1)
