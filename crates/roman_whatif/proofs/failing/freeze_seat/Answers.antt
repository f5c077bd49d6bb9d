use Rattle.roman_whatif.proofs.Common.{true, seat_of, with_frozen, seat_read}
use Rattle.roman_whatif.proofs.Lasting.{parts_with_seats, is_ready_there, left_frozen, left_freezing}
use Rattle.roman_whatif.proofs.failing.freeze_seat.Goals as goal

pub returns-then-seat : goal.returns-then-seat
returns-then-seat g c =
    let n = c.args.relation.now.joint in
    let seat = c.seat-seat.result.now in
    left_frozen n c.args.relation.now.order c.args.p c.args.k (seat_of n.catalogue seat) c.requires.relation c.requires.place.0 (seat_read n c.args.k seat c.seat-seat.ensures) c.if-seat.true

pub freeze-requires-clause-ready : goal.freeze-requires-clause-ready
freeze-requires-clause-ready g c = is_ready_there c.args.relation.now.joint c.args.k c.seat-seat.result.now c.seat-seat.ensures c.if-seat.false

pub returns : goal.returns
returns g c =
    let old = c.args.relation.now.joint in
    let new = c.freeze.new.relation in
    let repaired = c.freeze.ensures.repaired in
    left_freezing old new.joint new.order c.args.p c.args.k repaired.relation (parts_with_seats new.joint old (with_frozen old.seats c.args.k true) c.freeze.ensures.joint) repaired.system c.requires.place.0
