use Rattle.roman_laws.proofs.ReducedLemmas.{reduced_are}
use Rattle.roman_laws.proofs.reduced_are_systems.Goals as goal

pub returns : goal.returns
returns c = record { reduced = reduced_are }
