use Rattle.roman_turn_laws.proofs.ResumedLemmas.{open_taken_up, turns_alike}
use Rattle.roman_turn_laws.proofs.sessions_can_be_resumed.Goals as goal

pub returns-clause-turns : goal.returns-clause-turns
returns-clause-turns c = turns_alike

pub returns-clause-open : goal.returns-clause-open
returns-clause-open c = open_taken_up
