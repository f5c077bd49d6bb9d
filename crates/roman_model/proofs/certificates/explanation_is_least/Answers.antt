use Rattle.roman_model.proofs.ExplanationLemmas as lemmas
use Rattle.roman_model.proofs.certificates.explanation_is_least.Goals as goal

pub returns : goal.returns
returns c = record { least = lemmas.explanation_is_least; explained = lemmas.explanation_is_order }
