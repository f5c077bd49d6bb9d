use Rattle.roman_multi.proofs.Common.{◌≡◌, ◌++◌, map, take}
use Rattle.roman_multi.proofs.environment.push_triples.Given as goal

abbrev pub invariant-loop-to : goal.invariant-loop-to
invariant-loop-to l = l.steps.items ≡ l.fn.steps.items ++ map (λ to. (l.e, l.n, to)) (take l.to-index l.next)
