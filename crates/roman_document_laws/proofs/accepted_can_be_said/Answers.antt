use Rattle.roman_document_laws.proofs.AcceptedLemmas.{accepted_can}
use Rattle.roman_document_laws.proofs.SeveralLemmas.{accepted_several}
use Rattle.roman_document_laws.proofs.accepted_can_be_said.Goals as goal

pub returns-clause-libraries : goal.returns-clause-libraries
returns-clause-libraries c = accepted_can c.targets_are_combined.ensures.named

pub returns-clause-several : goal.returns-clause-several
returns-clause-several c = accepted_several
