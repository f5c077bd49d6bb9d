use Rattle.roman_top.proofs.StartsKnown.{starts_known}
use Rattle.roman_top.proofs.starts.starts_are_known.Goals as goal

pub returns : goal.returns
returns c = record { known = starts_known }
