use Rattle.roman_multi.proofs.Common.{◌≡◌, ◌++◌, take, moves_in}
use Rattle.roman_multi.proofs.behaviours.push_moves.Given as goal

abbrev pub invariant-loop-to : goal.invariant-loop-to
invariant-loop-to l = l.steps.items ≡ l.fn.steps.items ++ moves_in l.b l.n l.e (take l.to-index l.next)
