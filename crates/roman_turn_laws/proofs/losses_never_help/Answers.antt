use Rattle.roman_turn_laws.proofs.LossLemmas.{losses_never_help}
use Rattle.roman_turn_laws.proofs.losses_never_help.Goals as goal

pub returns : goal.returns
returns c = record { never = losses_never_help c.losing_never_helps.ensures.never c.accepted_names_are_clear.ensures.clear }
