use Rattle.roman_cost.proofs.Common.{◌≡◌, ◌++◌, drop, nothing_yet, worked_out}
use Rattle.roman_cost.proofs.terms.work_out.Given as goal

-- the values so far, and those that the remaining terms give
abbrev pub invariant-loop-term : goal.invariant-loop-term
invariant-loop-term l = l.values.items ++ worked_out l.later (drop l.term-index l.terms) l.standing ≡ l.initial.values.items ++ worked_out l.later l.terms nothing_yet
