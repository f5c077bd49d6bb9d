use Rattle.roman_session.proofs.Common.{ℕ, ◌<◌, List, Option, IfSome, length, slice_get, sym, ap, ◌∙◌, subst, arith, Beh, NamedSys, IsSeatBehaviour, behaves, present_system, FindsPlace, IfOk-weaker, get_in, states_named}
use Rattle.roman_model.specs.System.{Seat}
use Rattle.roman_session.proofs.session.Session.state_place.Goals as goal

pub place-requires : goal.place-requires
place-requires c =
    let is = c.known.ensures in
    let of = behaves _ _ _ is.parts (subst (λ (n : NamedSys). IsSeatBehaviour n c.args.k c.behaviour.result.now) c.joint.ensures c.behaviour.ensures) in
    let seat = is.parts.system.seats of.seat (get_in (present_system c.args.self.now).seats c.args.k of.seat of.seated) in
    omega (arith, seat.states.1, ap (λ (b : Beh). b.states) of.is, c.states.ensures.count, ap length c.states.ensures.names)

pub returns-clause-finds : goal.returns-clause-finds
returns-clause-finds c =
    let beh = c.behaviour.result.now in
    let of = subst (λ (n : NamedSys). IsSeatBehaviour n c.args.k beh) c.joint.ensures c.behaviour.ensures in
    subst (λ (names : List (List ℕ)). FindsPlace names c.args.name.now c.place.result) (c.states.ensures.names ∙ sym (states_named c.args.self.now.parts c.args.k beh of)) c.place.ensures.finds

pub returns-clause-within : goal.returns-clause-within
returns-clause-within c =
    let s = c.args.self.now in
    let of = behaves _ _ _ c.known.ensures.parts (subst (λ (n : NamedSys). IsSeatBehaviour n c.args.k c.behaviour.result.now) c.joint.ensures c.behaviour.ensures) in
    IfOk-weaker c.place.result (λ b. b < length c.states.result.now) (λ b. IfSome (slice_get (present_system s).seats c.args.k) (λ seat. b < seat.beh.states)) (λ b less.
    let within : b < of.seat.beh.states = omega (arith, less, ap (λ (b : Beh). b.states) of.is, c.states.ensures.count, ap length c.states.ensures.names) in
    subst (λ (o : Option Seat). IfSome o (λ seat. b < seat.beh.states)) (sym of.seated) within) c.place.ensures.within
