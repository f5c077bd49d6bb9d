use Rattle.roman_library.proofs.CombinedLemmas.{accepted_name_targets, targets_combined}
use Rattle.roman_library.proofs.laws.targets_are_combined.Goals as goal

pub returns : goal.returns
returns c = record { named = accepted_name_targets; combined = targets_combined }
