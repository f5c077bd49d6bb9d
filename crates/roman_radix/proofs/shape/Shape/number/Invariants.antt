use Rattle.roman_radix.proofs.Common.{◌≡◌, ◌+◌, drop, states_number, number}
use Rattle.roman_radix.proofs.shape.Shape.number.Given as goal

-- the number so far plus the number of the states that are left
abbrev pub invariant-loop-k : goal.invariant-loop-k
invariant-loop-k l =
    l.number + states_number (drop l.k l.self.seats) (drop l.k l.states) ≡ number l.self (record { t = l.t; e = l.e; bs = l.states })
