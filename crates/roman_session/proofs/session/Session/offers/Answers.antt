use Rattle.roman_session.proofs.Common.{ℕ, List, subst, has, offers, HasBits}
use Rattle.roman_session.proofs.SituationLemmas.{at_here}
use Rattle.roman_session.proofs.session.Session.offers.Goals as goal

pub returns : goal.returns
returns c =
    subst (λ (ks : List ℕ). HasBits c.offers.result (has ks)) (at_here (λ s p. offers s p c.args.a) c.args.self.now c.relation.result.now.joint c.here.result c.relation.ensures.joint c.here.ensures.pair)
    c.offers.ensures.offers
