use Rattle.roman_session.proofs.Common.{subst, sym, Situation, IsPhase, situation_in}
use Rattle.roman_session.proofs.SituationLemmas.{phase_kept, session_at}
use Rattle.roman_session.proofs.session.Session.set_phase.Goals as goal

pub invariant_of-self : goal.invariant_of-self
invariant_of-self c =
    let ok = c.self.invariant in
    let opens = phase_kept (situation_in c.self.inside) c.args.phase c.args.phase (subst (λ (s : Situation). IsPhase s c.args.phase) (sym c.self.view_is) c.requires.phase) in
    session_at c.self.inside _ _ _ _ c.args.phase _ ok ok.room ok.known.here ok.numbered opens (λ action is. absurd (c.requires.chosen action is))
