use Rattle.roman_order.proofs.Common.{◌-◌, take, drop, IsIn, IsApart, Batch}
use Rattle.roman_order.proofs.order.reading.next_kept.Given as goal

-- the batches so far have no lane in the words of their rows
abbrev pub invariant-loop-j : goal.invariant-loop-j
invariant-loop-j l = (e : Batch) → IsIn e (take (l.j - l.from) (drop l.from l.batches)) → IsApart l.words e
