use Rattle.roman_joint.proofs.SeatLemmas.{AreRead}
use Rattle.roman_joint.proofs.seats.sizes_of_seats.Given as goal

-- the first services are read
abbrev pub invariant-loop-k : goal.invariant-loop-k
invariant-loop-k l = AreRead l.catalogue l.seats l.sizes l.k
