use Rattle.roman_session.proofs.Common.{◌≡◌, ℕ, ◌++◌, List, codes, inl, sym, ap, ◌∙◌, with_newline, same_Some, Situation, shown}
use Rattle.roman_session.proofs.AnswerLemmas.{done}
use Rattle.roman_session.proofs.RuleLemmas.{delegate_opens}
use Rattle.roman_session.proofs.SituationLemmas.{name_there}
use Rattle.roman_session.proofs.session.Session.answer_delegate.Goals as goal

pub set_phase-requires-clause-phase : goal.set_phase-requires-clause-phase
set_phase-requires-clause-phase g c = delegate_opens _ _ _ c.known.ensures c.in-Ok.ensures.checks.requested c.in-Ok.ensures.checks.serves c.in-Ok.ensures.seat

pub returns-clause-step : goal.returns-clause-step
returns-clause-step g c =
    let s = c.args.self.now in
    let x = c.in-Ok.delegation in
    let can = c.in-Ok.ensures.checks in
    let name : c.seat.result.now.name ≡ c.args.service.now = same_Some _ _ (sym (name_there c.joint.result.now s x.seat c.seat.result.now c.joint.ensures c.seat.ensures) ∙ can.at) in
    done _ _ _ _ _ _ _ _ _ c.push_using-pushed.ensures.gathers
    (inl ((x.seat, can.at), inl ((x.action, can.requested), inl (can.serves, (ap (λ (name : List ℕ). with_newline (codes "using " ++ name)) name, ap shown c.set_phase.ensures)))), ap (λ (s : Situation). s.list) c.set_phase.ensures)
