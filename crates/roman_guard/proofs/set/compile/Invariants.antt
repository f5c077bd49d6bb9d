-- The word has the bits of the states before.
use Rattle.roman_guard.proofs.Common.{holds}
use Rattle.roman_guard.proofs.MarkLemmas.{Marks}
use Rattle.roman_guard.proofs.set.compile.Given as goal

abbrev pub invariant-loop-e : goal.invariant-loop-e
invariant-loop-e l = Marks l.bits l.e (holds l.guard)
