use Rattle.roman_session.proofs.Common.{arith, err_from_is_err_and}
use Rattle.roman_session.proofs.AnswerLemmas.{stays_related, answered_whole}
use Rattle.roman_session.proofs.session.Session.answer.Goals as goal

pub returns-in_err-next-clause-related : goal.returns-in_err-next-clause-related
returns-in_err-next-clause-related g c =
    stays_related c.args.self.now c.answer_on-answered.new.self c.args.line.now _ c.known.ensures c.answer_on-answered.ensures.step.step

pub returns-in_err-flush-clause-step : goal.returns-in_err-flush-clause-step
returns-in_err-flush-clause-step g c = grind (arith, err_from_is_err_and, answered_whole)

pub returns-in_err-flush-clause-related : goal.returns-in_err-flush-clause-related
returns-in_err-flush-clause-related g c =
    stays_related c.args.self.now c.answer_on-answered.new.self c.args.line.now _ c.known.ensures c.answer_on-answered.ensures.step.step

pub returns-clause-step : goal.returns-clause-step
returns-clause-step g c = answered_whole _ _ _ _ _ _ _ _ _ _ c.new-page.ensures.empty c.in_ok-next.ensures.step c.in_ok-flush.ensures.puts

pub returns-clause-related : goal.returns-clause-related
returns-clause-related g c =
    stays_related c.args.self.now c.answer_on-answered.new.self c.args.line.now _ c.known.ensures c.answer_on-answered.ensures.step.step
