use Rattle.roman_start.proofs.Common.{◌-◌, arith}
use Rattle.roman_start.proofs.DigitLemmas.{all_digits_push, glyph_value, text_step}
use Rattle.roman_start.proofs.products.text_of.Goals as goal

pub loop-i-preserved : goal.loop-i-preserved
loop-i-preserved c = grind (arith, all_digits_push, glyph_value, text_step)
