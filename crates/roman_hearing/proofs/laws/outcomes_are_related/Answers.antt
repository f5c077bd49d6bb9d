use Rattle.roman_hearing.proofs.Common.{observed_great}
use Rattle.roman_hearing.proofs.laws.outcomes_are_related.Goals as goal

pub returns : goal.returns
returns c = record { related = observed_great }
