use Rattle.roman_session.proofs.Common.{◌≡◌, ℕ, slice_set, inl, refl, sym, ap, ap₂, ◌∙◌, arith, moved, Situation, shown, Phase, Idle}
use Rattle.roman_session.proofs.AnswerLemmas.{done}
use Rattle.roman_session.proofs.SituationLemmas.{situation_known, jumped_pair}
use Rattle.roman_session.proofs.session.Session.answer_jump.Goals as goal

pub move_to-requires-clause-pair : goal.move_to-requires-clause-pair
move_to-requires-clause-pair g c = grind (arith, jumped_pair, situation_known)

pub returns-clause-step : goal.returns-clause-step
returns-clause-step g c =
    let s = c.args.self.now in
    let x = c.in-Ok.jump in
    let can = c.in-Ok.ensures.checks in
    let t = ap (λ (s : Situation). s.here.t) c.move_to.view_is in
    let e = ap (λ (s : Situation). s.here.e) c.move_to.view_is in
    let becomes : c.move_to-2.new.self ≡ record s { here = record s.here { bs = slice_set s.here.bs x.seat x.state } } =
    c.move_to-2.ensures ∙ ap₂ (λ (t e : ℕ). record s { here = moved s.here t e x.seat x.state; phase = Idle }) t e
    ∙ ap (λ (phase : Phase). record s { here = moved s.here s.here.t s.here.e x.seat x.state; phase = phase }) (sym can.idle) in
    done _ _ _ _ _ _ _ _ _ c.push_reply-2.ensures.gathers
    (inl ((x.seat, can.at), inl ((x.state, can.named), inl (can.idle, (refl, ap shown becomes)))), ap (λ (s : Situation). s.list) becomes)
