use Rattle.roman_session.proofs.Common.{rules}
use Rattle.roman_session.proofs.session.changes.change_service.Goals as goal

pub returns-in-Die-clause-relation : goal.returns-in-Die-clause-relation
returns-in-Die-clause-relation g c = record { joint = search rules; repaired = rw c.in-Die.is (λ seat at. c.die.ensures.repaired seat at) }
