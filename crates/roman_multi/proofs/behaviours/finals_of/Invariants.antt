use Rattle.roman_multi.proofs.Common.{◌≡◌, filter, below, is_final}
use Rattle.roman_multi.proofs.behaviours.finals_of.Given as goal

abbrev pub invariant-loop-b : goal.invariant-loop-b
invariant-loop-b l = l.finals.items ≡ filter (is_final l.behaviour.beh) (below l.b)
