use Rattle.roman_cost.proofs.Common.{◌≡◌, ◌++◌, suc, drop, flat_map, below, Costs, Sys, value_lines, certificate_text, Advises, IsFilling}
use Rattle.roman_cost.proofs.writing.push_values.Given as goal

-- the lines of the numbers of requests so far are pushed
abbrev pub invariant-loop-h : goal.invariant-loop-h
invariant-loop-h g l = record {
  filling : (s : Sys) (C : Costs) → Advises s C l.advice → IsFilling (g.O.Sink.written l.fn.out) (g.O.Sink.written l.out) l.page (flat_map (λ h. value_lines s C (suc h)) (drop l.h (below l.advice.requests))) (l.fn.page ++ certificate_text s C l.advice.requests);
  cause : g.O.Sink.faults l.out ≡ g.O.Sink.faults l.fn.out;
}
