use Rattle.roman_joint.proofs.Common.{ap, arith, false, length, subst, sym, true, ◌-◌, ◌<◌, ◌∙◌, count, take_all}
use Rattle.roman_joint.specs.declared.seat.Seat.{Seat}
use Rattle.roman_joint.proofs.SeatLemmas.{one_read, states_range}
use Rattle.roman_joint.proofs.seats.sizes_of_seats.Goals as goal

pub overflow_cast-sizes : goal.overflow_cast-sizes
overflow_cast-sizes c = grind (arith, states_range)

pub loop-k-preserved : goal.loop-k-preserved
loop-k-preserved c =
    let k = c.loop-k.k in
    let x = c.index-seats-k.result in
    let y = c.index-catalogue-seat.result in
    let place : x.behaviour < length c.args.catalogue.now = subst (λ (z : Seat). z.behaviour < length c.args.catalogue.now) (sym c.index-seats-k.is) (c.requires.behaviours k x c.loop-k-test.true) in
    one_read c.args.catalogue.now c.args.seats.now c.loop-k.sizes k c.len.result x y c.loop-k-test.true (omega (arith, c.requires.few)) c.index-seats-k.is c.index-catalogue-seat.is place
    (c.len.ensures.len ∙ (ap length c.states.ensures.names ∙ c.states.ensures.count)) c.states.ensures.known c.loop-k.invariant

pub returns-clause-known : goal.returns-clause-known
returns-clause-known c environment are = rw (take_all c.loop-k.k c.args.seats.now c.loop-k-test.false) at (c.loop-k.invariant.known environment are)
