use Rattle.roman_make.proofs.Common.{◌∙◌, ap, arith, length, refl, rules, SHIFT_STEPS}
use Rattle.roman_make.proofs.PartLemmas.{always, lists_within, shift_single, shift_is}
use Rattle.roman_make.proofs.parts.make_shift.Goals as goal

pub from_lists-requires-clause-lists : goal.from_lists-requires-clause-lists
from_lists-requires-clause-lists c =
    lists_within c.args.env.now c.in_ok-states.states _ c.deref.result.now (always SHIFT_STEPS) 4 c.requires (ap length c.in_ok-states.ensures) (c.deref.ensures.value ∙ c.in_ok-steps.ensures) (omega arith, omega arith) (grind arith) refl

pub from_lists-requires-clause-single : goal.from_lists-requires-clause-single
from_lists-requires-clause-single c =
    shift_single c.args.env.now c.in_ok-states.states c.deref.result.now c.requires c.in_ok-states.ensures (c.deref.ensures.value ∙ c.in_ok-steps.ensures)

pub returns-clause-shift : goal.returns-clause-shift
returns-clause-shift c = c.in_ok-shift.ensures ∙ shift_is _ _ _ c.requires c.in_ok-states.ensures (c.deref.ensures.value ∙ c.in_ok-steps.ensures)
