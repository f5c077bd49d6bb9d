use Rattle.roman_document_laws.proofs.AcceptedLemmas.{names_clear}
use Rattle.roman_document_laws.proofs.accepted_names_are_clear.Goals as goal

pub returns : goal.returns
returns c = record { clear = names_clear c.targets_are_combined.ensures.named }
