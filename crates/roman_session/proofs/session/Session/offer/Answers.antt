use Rattle.roman_session.proofs.Common.{◌≡◌, ℕ, subst, sym, has, offers, HasBits, Situation, present_system, IsPhase, situation_in, Offered}
use Rattle.roman_session.proofs.SituationLemmas.{phase_kept, session_at}
use Rattle.roman_session.proofs.session.Session.offer.Goals as goal

pub invariant_of-self : goal.invariant_of-self
invariant_of-self c =
    let s = situation_in c.self.inside in
    let ok = c.self.invariant in
    let phase = Offered c.args.a in
    let opens = phase_kept s phase phase (subst (λ (s : Situation). IsPhase s phase) (sym c.self.view_is) c.requires) in
    let bits = subst (λ (s : Situation). HasBits c.offers-self-inside.result (has (offers (present_system s) s.here c.args.a))) (sym c.self.view_is) c.offers-self-inside.ensures in
    session_at c.self.inside _ _ _ _ phase _ ok ok.room ok.known.here ok.numbered opens (λ action is.
    let same : c.args.a ≡ action = cc in
    subst (λ (n : ℕ). HasBits c.offers-self-inside.result (has (offers (present_system s) s.here n))) same bits)
