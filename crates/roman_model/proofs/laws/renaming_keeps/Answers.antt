use Rattle.roman_model.proofs.ChangeLemmas as laws
use Rattle.roman_model.proofs.laws.renaming_keeps.Goals as goal

pub returns : goal.returns
returns c = record { kept = laws.renaming_keeps }
