use Rattle.roman_session.proofs.Common.{◌≡◌, ◌<◌, length, slice_index, sym, ap, ◌∙◌, subst, arith, length-map, Pair, IsPair, Sizes, sizes_of, number, pair_at, moved, NamedSys, system_of, seat_of, Situation, present_system, situation_in, Idle}
use Rattle.roman_session.proofs.SituationLemmas.{situation_known, session_at, parts_shown, moved_within, state_there}
use Rattle.roman_session.proofs.session.Session.move_to.Goals as goal

pub moved-self-inside-requires-clause-state : goal.moved-self-inside-requires-clause-state
moved-self-inside-requires-clause-state c =
    let s = c.args.self.now in
    let sizes = c.shape.ensures ∙ ap (λ (n : NamedSys). sizes_of (system_of n)) (parts_shown c.self.inside s c.self.view_is) in
    let is = situation_known c.self.inside s c.self.invariant c.self.view_is in
    let l : c.args.k < length (present_system s).seats = omega (arith, c.requires.seat, length-map s.parts.seats (seat_of s.parts.catalogue)) in
    subst (λ (m : Sizes). c.args.b < slice_index m.seats c.args.k) (sym sizes)
    (moved_within (present_system s) s.here c.args.t c.args.e c.args.k c.args.b is.here c.requires.pair l)

pub index_mut-requires : goal.index_mut-requires
index_mut-requires c =
    let a = c.self.inside in
    omega (arith, state_there a c.args.self.now c.args.k c.self.invariant c.self.view_is c.requires.seat, a.states.ok.0)

pub invariant_of-self : goal.invariant_of-self
invariant_of-self c =
    let s = situation_in c.self.inside in
    let ok = c.self.invariant in
    let at = subst (λ (s : Situation). pair_at (sizes_of (present_system s)) c.here.result ≡ s.here) (sym c.self.view_is) c.here.ensures.pair in
    let pair = subst (λ (s : Situation). IsPair (present_system s) (moved s.here c.args.t c.args.e c.args.k c.args.b)) (sym c.self.view_is) c.requires.pair in
    let numbered =
    c.moved-self-inside.ensures.number ∙ ap (λ (m : Sizes). number m (moved (pair_at m c.here.result) c.args.t c.args.e c.args.k c.args.b)) c.shape.ensures
    ∙ ap (λ (p : Pair). number (sizes_of (present_system s)) (moved p c.args.t c.args.e c.args.k c.args.b)) at in
    session_at c.self.inside _ _ _ _ Idle _ ok ok.room pair numbered tt (λ action is. cc)
