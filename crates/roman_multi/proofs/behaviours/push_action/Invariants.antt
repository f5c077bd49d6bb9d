use Rattle.roman_multi.proofs.Common.{◌≡◌, ◌++◌, moves_by, next_of_member}
use Rattle.roman_multi.proofs.behaviours.push_action.Given as goal

abbrev pub invariant-loop-e : goal.invariant-loop-e
invariant-loop-e l = l.steps.items ≡ l.fn.steps.items ++ moves_by l.e (next_of_member l.member l.b l.n) l.b l.n
