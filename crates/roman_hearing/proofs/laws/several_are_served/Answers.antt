use Rattle.roman_hearing.proofs.SeveralLemmas.{several_served}
use Rattle.roman_hearing.proofs.laws.several_are_served.Goals as goal

pub returns : goal.returns
returns c = record { served = several_served }
