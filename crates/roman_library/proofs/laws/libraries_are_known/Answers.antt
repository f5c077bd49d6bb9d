use Rattle.roman_library.proofs.KnownLemmas.{libraries_known}
use Rattle.roman_library.proofs.laws.libraries_are_known.Goals as goal

pub returns : goal.returns
returns c = record { known = libraries_known }
