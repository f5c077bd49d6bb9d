use Rattle.roman_session.proofs.AnswerLemmas.{done}
use Rattle.roman_session.proofs.RuleLemmas.{may_open, requests}
use Rattle.roman_session.proofs.session.Session.answer_request.Goals as goal

pub offer-requires : goal.offer-requires
offer-requires g c = may_open _ _ _ c.known.ensures c.in-Ok.ensures

pub returns-clause-step : goal.returns-clause-step
returns-clause-step g c = done _ _ _ _ _ _ _ _ _ c.push_offered.ensures.gathers (requests _ _ _ _ c.known.ensures c.in-Ok.ensures c.offer.ensures)
