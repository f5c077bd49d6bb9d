use Rattle.roman_order.proofs.Common.{◌≡◌, ℕ, ◌+◌, length, map, true, is_on, set_lanes, with_stamps}
use Rattle.roman_order.proofs.order.places.write_batch.Given as goal

-- writing the stamps of the remaining lanes completes the table
abbrev pub invariant-rest : goal.invariant-rest
invariant-rest l = record {
  stamped : with_stamps l.next (map (λ lane. l.first + lane) (set_lanes l.rest)) l.stamps ≡ with_stamps l.place (map (λ lane. l.first + lane) (set_lanes l.word)) l.fn.stamps;
  next : l.next + length (set_lanes l.rest) ≡ l.place + length (set_lanes l.word);
  fewer : (lane : ℕ) → is_on l.rest lane ≡ true → is_on l.word lane ≡ true;
}

abbrev pub decreases-rest : goal.decreases-rest
decreases-rest l = length (set_lanes l.rest)
