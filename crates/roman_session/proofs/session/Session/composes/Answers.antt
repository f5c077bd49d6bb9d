use Rattle.roman_session.proofs.SituationLemmas.{related_is}
use Rattle.roman_session.proofs.session.Session.composes.Goals as goal

pub returns : goal.returns
returns c = related_is _ _ _ _ c.known.ensures c.relation.ensures.joint c.here.ensures.pair (c.related.ensures.great c.relation.ensures.known.complete)
