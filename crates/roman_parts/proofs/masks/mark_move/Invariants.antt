use Rattle.roman_parts.proofs.CellLemmas.{MarksBelow}
use Rattle.roman_parts.proofs.masks.mark_move.Given as goal

-- the cells of the environment states so far are marked
abbrev pub invariant-loop-e : goal.invariant-loop-e
invariant-loop-e l = MarksBelow l.e l.cells.env_states l.cells.actions l.initial.masks l.masks l.at l.guard l.action l.n
