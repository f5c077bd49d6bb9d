use Rattle.roman_check.proofs.Common.{arith}
use Rattle.roman_check.proofs.DigitLemmas.{no_number_to}
use Rattle.roman_check.proofs.numbers.number_to.Goals as goal

pub returns-then-end-bytes : goal.returns-then-end-bytes
returns-then-end-bytes c j = no_number_to _ _ _ _ j c.requires c.front_digits-value.ensures (λ l. absurd (omega (arith, c.if-end-bytes.true)))

pub returns-then-bytes-end : goal.returns-then-bytes-end
returns-then-bytes-end c j = no_number_to _ _ _ _ j c.requires c.front_digits-value.ensures (λ l. c.if-bytes-end.true)
