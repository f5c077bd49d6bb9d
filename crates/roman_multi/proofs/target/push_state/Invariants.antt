use Rattle.roman_multi.proofs.Common.{◌≡◌, ◌++◌, moves_from, next_in}
use Rattle.roman_multi.proofs.target.push_state.Given as goal

abbrev pub invariant-loop-n : goal.invariant-loop-n
invariant-loop-n l = l.steps.items ≡ l.fn.steps.items ++ moves_from l.merge.env.now.env.states l.n (next_in l.merge l.t) l.t
