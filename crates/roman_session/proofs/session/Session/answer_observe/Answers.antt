use Rattle.roman_session.proofs.AnswerLemmas.{done}
use Rattle.roman_session.proofs.RuleLemmas.{observes, observes_never, observes_moved}
use Rattle.roman_session.proofs.Common.{ℕ, List, IsTrue, slice_get, slice_set, sym, ap, refl, subst, is_allowed, is_ready, Situation, present_system, situation_in, SStep, rules}
use Rattle.roman_session.proofs.SituationLemmas.{delegate_ready}
use Rattle.roman_session.proofs.StepLemmas.{HasMoved, moved_pair}
use Rattle.roman_session.proofs.session.Session.answer_observe.Goals as goal

pub next_target-requires-clause-allowed : goal.next_target-requires-clause-allowed
next_target-requires-clause-allowed g c =
    subst (λ (s : Situation). IsTrue (is_allowed (present_system s) s.here c.in-Ok.observation.action)) (sym c.self.view_is) c.in-Ok.ensures.phase.0.1

pub next_target-requires-clause-ready : goal.next_target-requires-clause-ready
next_target-requires-clause-ready g c =
    subst (λ (s : Situation). IsTrue (is_ready (slice_get (present_system s).seats c.in-Ok.observation.seat))) (sym c.self.view_is) (delegate_ready _ _ _ c.known.ensures c.in-Ok.ensures.phase.1)

pub move_to-requires-clause-pair : goal.move_to-requires-clause-pair
move_to-requires-clause-pair g c =
    let a = c.self.inside in
    let s = situation_in a in
    let x = c.in-Ok.observation in
    let moves = c.in-Some.ensures.moves in
    let there : HasMoved s x c.in-Some.to = record {
      target = moves.0;
      system = subst (λ (bs : List ℕ). SStep (present_system s) bs a.env x.action x.seat (slice_set bs x.seat x.state) x.env) c.deref.ensures.value moves.1;
    } in
    moved_pair c.args.self.now x c.in-Some.to c.known.ensures (subst (λ (s : Situation). HasMoved s x c.in-Some.to) c.self.view_is there)

pub returns-in_default-clause-step : goal.returns-in_default-clause-step
returns-in_default-clause-step g c =
    done _ _ _ _ _ _ _ _ _ c.push_reply-in_default.ensures.gathers (observes _ _ _ _ _ _ c.in-Ok.ensures.checks (observes_never c.self.inside c.args.self.now c.in-Ok.observation _ _ c.self.view_is c.deref.ensures.value c.in_default.ensures.none) refl)

pub returns-clause-step : goal.returns-clause-step
returns-clause-step g c =
    done _ _ _ _ _ _ _ _ _ c.push_now.ensures.gathers (observes _ _ _ _ _ _ c.in-Ok.ensures.checks (observes_moved c.self.inside c.args.self.now _ c.in-Ok.observation c.in-Some.to _ _ _ c.self.view_is c.deref.ensures.value c.in-Some.ensures.moves c.move_to.ensures (search rules)) (ap (λ (s : Situation). s.list) c.move_to.ensures))
