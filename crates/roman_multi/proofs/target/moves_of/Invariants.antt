use Rattle.roman_multi.proofs.Common.{◌≡◌, length, listed_moves, next_in}
use Rattle.roman_multi.proofs.target.moves_of.Given as goal

abbrev pub invariant-loop-t : goal.invariant-loop-t
invariant-loop-t l = l.steps.items ≡ listed_moves l.merge.env.now.env.states (length l.merge.requests.now) l.t (next_in l.merge)
