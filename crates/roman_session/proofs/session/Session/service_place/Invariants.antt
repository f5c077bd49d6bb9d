use Rattle.roman_session.proofs.Common.{map, seat_name, IsPast}
use Rattle.roman_session.proofs.session.Session.service_place.Given as goal

-- the services so far have other names
abbrev pub invariant-loop-k : goal.invariant-loop-k
invariant-loop-k l = IsPast (map seat_name l.self.parts.seats) l.name l.k
