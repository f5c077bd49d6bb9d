use Rattle.roman_cost.proofs.Common.{◌≡◌, ◌++◌, drop, flat_map, Costs, least_at, Sys, value_line, value_lines, Advises, IsFilling}
use Rattle.roman_cost.proofs.writing.push_values_for.Given as goal

-- the lines of the pairs so far are pushed
abbrev pub invariant-loop-i : goal.invariant-loop-i
invariant-loop-i g l = record {
  filling : (s : Sys) (C : Costs) → Advises s C l.advice → IsFilling (g.O.Sink.written l.fn.out) (g.O.Sink.written l.out) l.page (flat_map (λ p. value_line l.h p (least_at s C l.h p)) (drop l.i l.advice.pairs)) (l.fn.page ++ value_lines s C l.h);
  cause : g.O.Sink.faults l.out ≡ g.O.Sink.faults l.fn.out;
}
