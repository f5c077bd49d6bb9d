use Rattle.roman_session.proofs.Common.{◌≡◌, ℕ, ◌<◌, ◌+◌, List, ◌∷◌, Some, ap, length, not, slice_get, sym, subst, arith, length-map, states_long, Beh, NamedSys, Seat, IsSeatBehaviour, behaves, present_system, seat_of, services_from}
use Rattle.roman_text.specs.declared.report.ReportLine.TheVariants as line
use Rattle.roman_session.proofs.LineLemmas.{service_first}
use Rattle.roman_session.proofs.session.Session.service_line.Goals as goal

pub at-requires : goal.at-requires
at-requires c =
    let of = behaves _ _ _ c.known.ensures.parts (subst (λ (n : NamedSys). IsSeatBehaviour n c.args.k c.behaviour-behaviour.result.now) c.joint-2.ensures c.behaviour-behaviour.ensures) in
    omega (arith, c.from.ensures, c.state.ensures.within of.seat of.seated, ap (λ (b : Beh). b.states) of.is, c.states.ensures.count, ap length c.states.ensures.names)

pub returns : goal.returns
returns c =
    let s = c.args.self.now in
    let seat = c.seat-seat.result.now in
    let beh = c.behaviour-behaviour.result.now in
    let seated : slice_get s.parts.seats c.args.k ≡ Some seat = cc in
    let of = subst (λ (n : NamedSys). IsSeatBehaviour n c.args.k beh) c.joint-2.ensures c.behaviour-behaviour.ensures in
    let same : of.seat ≡ seat = cc (of.seated, seated) in
    let placed = subst (λ (x : Seat). slice_get s.parts.catalogue x.behaviour ≡ Some beh) same of.placed in
    let there : slice_get beh.states c.state.result ≡ Some c.at.result.now = cc in
    let long : c.args.k < length s.here.bs = omega (arith, c.requires, states_long (present_system s) s.here c.known.ensures.here, length-map s.parts.seats (seat_of s.parts.catalogue)) in
    subst (λ (name : List ℕ). services_from s.parts s.here c.args.k ≡ line.Service seat.name name c.at.result.now seat.frozen (not seat.rests) ∷ services_from s.parts s.here (c.args.k + 1)) (sym c.name.ensures)
    (service_first s.parts s.here c.args.k c.state.result seat beh c.at.result.now seated long c.state.ensures.value placed there)
