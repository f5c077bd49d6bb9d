use Rattle.roman_turn_laws.proofs.FixedLemmas.{resumed_alike, sessions_fixed, turns_fixed}
use Rattle.roman_turn_laws.proofs.answers_are_fixed.Goals as goal

pub returns-clause-fixed : goal.returns-clause-fixed
returns-clause-fixed c = turns_fixed c.reports_are_fixed.ensures.fixed c.accepted_names_are_clear.ensures.clear

pub returns-clause-sessions : goal.returns-clause-sessions
returns-clause-sessions c = sessions_fixed c.reports_are_fixed.ensures.fixed c.spell_events.ensures.read c.accepted_names_are_clear.ensures.clear

pub returns-clause-alike : goal.returns-clause-alike
returns-clause-alike c = resumed_alike c.reports_are_fixed.ensures.fixed c.spell_events.ensures.read c.accepted_names_are_clear.ensures.clear
