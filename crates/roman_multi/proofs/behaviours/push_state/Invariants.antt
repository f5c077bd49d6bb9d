use Rattle.roman_multi.proofs.Common.{◌≡◌, ◌++◌, moves_from, next_of_member}
use Rattle.roman_multi.proofs.behaviours.push_state.Given as goal

abbrev pub invariant-loop-n : goal.invariant-loop-n
invariant-loop-n l = l.steps.items ≡ l.fn.steps.items ++ moves_from l.member.env.now.env.states l.n (next_of_member l.member l.b) l.b
