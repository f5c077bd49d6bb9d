use Rattle.roman_laws.proofs.OutcomeLemmas.{outcomes_steps, tests_membership}
use Rattle.roman_laws.proofs.definitions.outcomes_are_steps.Goals as goal

pub returns : goal.returns
returns c = record { outcomes = outcomes_steps; listed = tests_membership }
