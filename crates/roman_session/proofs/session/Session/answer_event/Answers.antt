use Rattle.roman_session.proofs.AnswerLemmas.{done}
use Rattle.roman_session.proofs.RuleLemmas.{reports}
use Rattle.roman_session.proofs.session.Session.answer_event.Goals as goal

pub returns-in-Report-clause-step : goal.returns-in-Report-clause-step
returns-in-Report-clause-step g c = rw c.in-Report.is (done _ _ _ _ _ _ _ _ _ c.push_report.ensures.gathers (reports c.args.self.now c.known.ensures))
