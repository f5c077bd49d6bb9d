-- Steps that form no choice go to at most one state.
use Rattle.roman_parts.proofs.Common.{◌≡◌, None, length, map, choice_of, move_of}
use Rattle.roman_parts.proofs.SingleLemmas.{single_steps}
use Rattle.roman_parts.proofs.parts.read_target.Goals as goal

pub from_lists-requires-clause-single : goal.from_lists-requires-clause-single
from_lists-requires-clause-single c =
    let none : choice_of (map move_of c.deref-3.result.now) ≡ None = rw (c.deref-3.ensures.value, ← c.deref.ensures.value) c.in_ok-check_single.ensures.none in
    single_steps c.args.env.now.env.states c.args.env.now.env.actions (length c.in_ok-states.states) c.in_ok-start.start c.deref-2.result.now c.deref-3.result.now none
