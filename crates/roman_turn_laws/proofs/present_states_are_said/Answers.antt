use Rattle.roman_turn_laws.proofs.PresentLemmas.{present_is_said}
use Rattle.roman_turn_laws.proofs.TargetLemmas.{present_targets}
use Rattle.roman_turn_laws.proofs.present_states_are_said.Goals as goal

pub returns-clause-said : goal.returns-clause-said
returns-clause-said c = present_is_said c.accepted_names_are_clear.ensures.clear c.accepted_can_be_said.ensures.libraries c.parts_are_said.ensures.libraries

pub returns-clause-targets : goal.returns-clause-targets
returns-clause-targets c = present_targets c.accepted_names_are_clear.ensures.clear c.accepted_can_be_said.ensures.several c.parts_are_said.ensures.several c.targets_are_combined.ensures.combined
