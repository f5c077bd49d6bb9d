use Rattle.roman_hearing.proofs.Common.{requests_offered}
use Rattle.roman_hearing.proofs.laws.requests_are_offered.Goals as goal

pub returns : goal.returns
returns c = record { offered = requests_offered }
