use Rattle.roman_session.proofs.Common.{inr, refl, ap, Situation, shown}
use Rattle.roman_session.proofs.AnswerLemmas.{done}
use Rattle.roman_session.proofs.session.Session.answer_abort.Goals as goal

pub returns-clause-step : goal.returns-clause-step
returns-clause-step g c =
    done _ _ _ _ _ _ _ _ _ c.push_reply-2.ensures.gathers (inr (c.in_default.ensures, (refl, ap shown c.set_phase.ensures)), ap (λ (s : Situation). s.list) c.set_phase.ensures)
