use Rattle.roman_multi.proofs.Common.{◌≡◌, ◌++◌, moves_by, next_in}
use Rattle.roman_multi.proofs.target.push_action.Given as goal

abbrev pub invariant-loop-e : goal.invariant-loop-e
invariant-loop-e l = l.steps.items ≡ l.fn.steps.items ++ moves_by l.e (next_in l.merge l.t l.n) l.t l.n
