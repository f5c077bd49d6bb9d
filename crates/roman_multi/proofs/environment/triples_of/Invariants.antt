use Rattle.roman_multi.proofs.Common.{◌≡◌, flat_map, below, triples_by}
use Rattle.roman_multi.proofs.environment.triples_of.Given as goal

abbrev pub invariant-loop-e : goal.invariant-loop-e
invariant-loop-e l = l.steps.items ≡ flat_map (triples_by l.env.env l.requests) (below l.e)
