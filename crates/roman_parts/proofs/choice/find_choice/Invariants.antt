-- None of the steps so far forms a choice with an earlier one.
use Rattle.roman_parts.proofs.Common.{map, move_of, choice_with}
use Rattle.roman_parts.proofs.ChoiceLemmas.{NoneBelow}
use Rattle.roman_parts.proofs.choice.find_choice.Given as goal

abbrev pub invariant-loop-j : goal.invariant-loop-j
invariant-loop-j l = NoneBelow (choice_with (map move_of l.steps)) l.j
