use Rattle.roman_order.proofs.Common.{◌≡◌, ◌+◌, length, drop, entries_of, IsBatch, nodes_of, with_stamps, AllByRecursion}
use Rattle.roman_order.proofs.order.places.write_stamps.Given as goal

-- writing the stamps of the batches from place j on completes the table
abbrev pub invariant-loop-j : goal.invariant-loop-j
invariant-loop-j l = record {
  each : AllByRecursion (IsBatch l.lanes) (drop l.j l.batches);
  place : l.place + length (entries_of l.lanes (drop l.j l.batches)) ≡ length (entries_of l.lanes l.batches);
  stamped : with_stamps l.place (nodes_of (entries_of l.lanes (drop l.j l.batches))) l.stamps ≡ with_stamps 0 (nodes_of (entries_of l.lanes l.batches)) l.fn.stamps;
}
