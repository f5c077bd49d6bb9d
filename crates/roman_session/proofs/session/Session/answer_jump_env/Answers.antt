use Rattle.roman_session.proofs.Common.{inl, refl, ap, Situation, shown}
use Rattle.roman_session.proofs.AnswerLemmas.{done}
use Rattle.roman_session.proofs.session.Session.answer_jump_env.Goals as goal

pub returns-clause-step : goal.returns-clause-step
returns-clause-step g c =
    let can = c.in-Ok.ensures.checks in
    done _ _ _ _ _ _ _ _ _ c.push_reply-2.ensures.gathers
    (inl ((c.in-Ok.env, can.named), inl (can.idle, (refl, ap shown c.move_env.ensures))), ap (λ (s : Situation). s.list) c.move_env.ensures)
