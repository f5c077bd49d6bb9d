use Rattle.roman_session.proofs.Common.{ℕ, ap, ◌∙◌, sizes_of, number, pair_at, numbers_are_pairs, Situation, present_system}
use Rattle.roman_session.proofs.SituationLemmas.{situation_known}
use Rattle.roman_session.proofs.session.Session.here.Goals as goal

pub returns-clause-below : goal.returns-clause-below
returns-clause-below c =
    let s = c.args.self.now in
    let is = situation_known c.self.inside s c.self.invariant c.self.view_is in
    rw (c.self.invariant.numbered ∙ ap (λ (s : Situation). number (sizes_of (present_system s)) s.here) c.self.view_is) ((numbers_are_pairs (present_system s)).below s.here is.here)

pub returns-clause-pair : goal.returns-clause-pair
returns-clause-pair c =
    let s = c.args.self.now in
    let is = situation_known c.self.inside s c.self.invariant c.self.view_is in
    ap (λ (p : ℕ). pair_at (sizes_of (present_system s)) p) (c.self.invariant.numbered ∙ ap (λ (s : Situation). number (sizes_of (present_system s)) s.here) c.self.view_is)
    ∙ (numbers_are_pairs (present_system s)).back s.here is.here
