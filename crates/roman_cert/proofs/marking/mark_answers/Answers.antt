use Rattle.roman_cert.proofs.Common.{arith, or-false, numbered_same}
use Rattle.roman_cert.proofs.MarkLemmas.{answers_marked, seats_more, marks_one}
use Rattle.roman_cert.proofs.marking.mark_answers.Goals.{in-Some, in_default}
use Rattle.roman_cert.proofs.marking.mark_answers.Goals as goal

pub loop-k-preserved : goal.loop-k-preserved
loop-k-preserved g c = grind (arith, in-Some, in_default, marks_one, numbered_same, or-false, seats_more)

pub returns-clause-marked : goal.returns-clause-marked
returns-clause-marked g c q = grind (arith, answers_marked)
