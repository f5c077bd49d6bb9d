use Rattle.roman_joint.proofs.BehaviourLemmas.{service_read}
use Rattle.roman_joint.proofs.states.service.Goals as goal

pub returns : goal.returns
returns c = service_read _ _ _ _ _ c.known.ensures c.seat-seat.ensures c.catalogue.ensures c.index-catalogue-seat.is
