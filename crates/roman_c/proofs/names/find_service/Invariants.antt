use Rattle.roman_c.proofs.Common.{IsPast, map, seat_name}
use Rattle.roman_c.proofs.names.find_service.Given as goal

-- the services so far have other names
abbrev pub invariant-loop-k : goal.invariant-loop-k
invariant-loop-k l = IsPast (map seat_name l.joint.seats) l.name l.k
