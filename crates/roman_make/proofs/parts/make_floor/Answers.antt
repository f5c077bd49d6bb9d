use Rattle.roman_make.proofs.Common.{◌∙◌}
use Rattle.roman_make.proofs.PartLemmas.{floor_is}
use Rattle.roman_make.proofs.parts.make_floor.Goals as goal

pub returns-clause-floor : goal.returns-clause-floor
returns-clause-floor c = c.in_ok-floor.ensures ∙ floor_is _ _ c.in_ok-states.ensures c.in_ok-actions.ensures
