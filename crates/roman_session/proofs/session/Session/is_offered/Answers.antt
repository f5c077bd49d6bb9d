use Rattle.roman_session.proofs.Common.{◌≡◌, Bool, sym, ◌∙◌, subst, arith, length-map, has, has_seat_is, offers, present_system, seat_of, shown, ServesHere, Tests}
use Rattle.roman_session.proofs.RuleLemmas.{offered_tests}
use Rattle.roman_session.proofs.session.Session.is_offered.Goals as goal

pub returns : goal.returns
returns c =
    let s = c.args.self.now in
    let same : c.has.result ≡ has (offers (present_system s) s.here c.args.a) c.args.k =
    c.has.ensures ∙ has_seat_is _ _ c.args.k c.offered.ensures (omega (arith, c.requires.seat, c.known.ensures.parts.system.few, length-map s.parts.seats (seat_of s.parts.catalogue))) in
    subst (λ (b : Bool). Tests b (ServesHere (shown s) c.args.a c.args.k)) (sym same) (offered_tests s c.args.a c.args.k c.known.ensures c.requires.requested c.requires.seat)
