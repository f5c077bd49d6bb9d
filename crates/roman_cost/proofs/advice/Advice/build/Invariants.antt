use Rattle.roman_cost.proofs.Common.{◌≡◌, suc, system_of, values_below, seat_costs}
use Rattle.roman_cost.proofs.advice.Advice.build.Given as goal

-- the values so far
abbrev pub invariant-loop-done : goal.invariant-loop-done
invariant-loop-done l = l.values.items ≡ values_below (system_of l.relation.joint) (seat_costs l.relation.joint l.costs.listed) l.pairs.items (suc l.done)
