-- Step j forms no choice with the steps so far.
use Rattle.roman_parts.proofs.Common.{map, move_of, choice_at}
use Rattle.roman_parts.proofs.ChoiceLemmas.{NoneBelow}
use Rattle.roman_parts.proofs.choice.choice_with.Given as goal

abbrev pub invariant-loop-i : goal.invariant-loop-i
invariant-loop-i l = NoneBelow (choice_at (map move_of l.steps) l.j) l.i
