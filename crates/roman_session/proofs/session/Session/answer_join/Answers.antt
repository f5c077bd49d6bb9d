use Rattle.roman_session.proofs.AnswerLemmas.{done}
use Rattle.roman_session.proofs.RuleLemmas.{joins}
use Rattle.roman_session.proofs.session.Session.answer_join.Goals as goal

pub returns-clause-step : goal.returns-clause-step
returns-clause-step g c = done _ _ _ _ _ _ _ _ _ c.push_reply-2.ensures.gathers (joins _ _ _ c.in-Ok.joining _ c.in-Ok.ensures.checks c.join_seat.ensures)
