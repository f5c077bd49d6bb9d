-- A choice is between two steps of the list, in a state of both guards.
use Rattle.roman_parts.proofs.Common.{length, sym, arith}
use Rattle.roman_parts.proofs.SingleLemmas.{choice_within}
use Rattle.roman_parts.proofs.choice.check_single.Goals as goal

pub overflow_cast-kind : goal.overflow_cast-kind
overflow_cast-kind c = grind (arith, (choice_within c.args.steps.now (length c.args.env_states.now) c.in-Some.j c.in-Some.i c.in-Some.state c.requires.guards (sym c.in-Some.ensures)))

pub at-requires : goal.at-requires
at-requires c = grind (arith, (choice_within c.args.steps.now (length c.args.env_states.now) c.in-Some.j c.in-Some.i c.in-Some.state c.requires.guards (sym c.in-Some.ensures)))

pub overflow_cast-j : goal.overflow_cast-j
overflow_cast-j c = grind (arith, (choice_within c.args.steps.now (length c.args.env_states.now) c.in-Some.j c.in-Some.i c.in-Some.state c.requires.guards (sym c.in-Some.ensures)))
