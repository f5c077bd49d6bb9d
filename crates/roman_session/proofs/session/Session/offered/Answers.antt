use Rattle.roman_session.proofs.Common.{ap, ◌∙◌, subst, has, offers, HasBits, Situation, present_system}
use Rattle.roman_session.proofs.session.Session.offered.Goals as goal

pub returns : goal.returns
returns c =
    let a = c.self.inside in
    let requested = ap (λ (s : Situation). s.phase) c.self.view_is ∙ c.requires in
    subst (λ (s : Situation). HasBits a.mask (has (offers (present_system s) s.here c.args.a))) c.self.view_is (c.self.invariant.offered c.args.a requested)
