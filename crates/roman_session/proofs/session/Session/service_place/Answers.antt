use Rattle.roman_session.proofs.Common.{refl, map, arith, length-map, seat_name, past_next, past_found, past_none}
use Rattle.roman_session.proofs.NameLemmas.{place_there, no_name_there}
use Rattle.roman_session.proofs.SituationLemmas.{service_named_at}
use Rattle.roman_session.proofs.session.Session.service_place.Goals as goal

pub returns-then-eq-clause-finds : goal.returns-then-eq-clause-finds
returns-then-eq-clause-finds c = place_there (map seat_name c.args.self.now.parts.seats) c.args.name.now c.loop-k.k (grind (arith, length-map, past_found, service_named_at))

pub loop-k-preserved : goal.loop-k-preserved
loop-k-preserved c = grind (arith, length-map, past_next, service_named_at)

pub returns-clause-finds : goal.returns-clause-finds
returns-clause-finds c =
    (refl, no_name_there (map seat_name c.args.self.now.parts.seats) c.args.name.now (grind (arith, length-map, past_none)))
