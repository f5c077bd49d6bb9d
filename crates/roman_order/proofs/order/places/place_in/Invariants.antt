use Rattle.roman_order.proofs.Common.{◌≡◌, ℕ, ◌+◌, length, drop, eqb, position_from, AllByRecursion, Entry, IsBatch, entries_of, place_in_list}
use Rattle.roman_order.proofs.order.places.place_in.Given as goal

-- the place is found by a search of the batches from place j on
abbrev pub invariant-loop-j : goal.invariant-loop-j
invariant-loop-j l = record {
  each : AllByRecursion (IsBatch l.lanes) (drop l.j l.batches);
  place : l.place + length (entries_of l.lanes (drop l.j l.batches)) ≡ length (entries_of l.lanes l.batches);
  found : position_from (λ (y : Entry ℕ). eqb l.p y.node) l.place (entries_of l.lanes (drop l.j l.batches)) ≡ place_in_list (entries_of l.lanes l.batches) l.p;
}
