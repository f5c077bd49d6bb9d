use Rattle.roman_multi.proofs.Common.{◌≡◌, length, listed_moves, next_of_member}
use Rattle.roman_multi.proofs.behaviours.moves_of.Given as goal

abbrev pub invariant-loop-b : goal.invariant-loop-b
invariant-loop-b l = l.steps.items ≡ listed_moves l.member.env.now.env.states (length l.member.requests.now) l.b (next_of_member l.member)
