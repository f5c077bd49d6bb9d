use Rattle.roman_c.proofs.Common.{◌≡◌, ℕ, ◌<◌, ◌≤◌, bit_at, bit_of, has_seat}
use Rattle.roman_c.proofs.offered.bits_of.Given as goal

-- the bits so far are those of the set, and no other bit is 1
abbrev pub invariant-loop-k : goal.invariant-loop-k
invariant-loop-k l = record {
  taken : (j : ℕ) → j < l.k → bit_at l.bits j ≡ bit_of (has_seat l.set j);
  rest : (j : ℕ) → l.k ≤ j → bit_at l.bits j ≡ 0;
}
