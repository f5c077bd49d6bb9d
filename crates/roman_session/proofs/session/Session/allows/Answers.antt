use Rattle.roman_session.proofs.Common.{◌∙◌, is_allowed}
use Rattle.roman_session.proofs.SituationLemmas.{at_here}
use Rattle.roman_session.proofs.session.Session.allows.Goals as goal

pub returns : goal.returns
returns c = c.allowed.ensures ∙ at_here (λ s p. is_allowed s p c.args.a) c.args.self.now c.joint.result.now c.here.result c.joint.ensures c.here.ensures.pair
