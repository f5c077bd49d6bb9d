use Rattle.roman_joint.proofs.Common.{arith, length-map, system_of, seat_of}
use Rattle.roman_joint.proofs.WalkLemmas.{goes_seat, below-past}
use Rattle.roman_joint.proofs.joint.Joint.next_seat.Goals as goal

pub returns : goal.returns
returns c =
    let n = c.args.self.now in
    goes_seat (system_of n) c.known.ensures.system c.args.walk.now c.requires.walk c.requires.seat (omega (arith, length-map n.seats (seat_of n.catalogue)))

pub returns-then-walk-seats : goal.returns-then-walk-seats
returns-then-walk-seats c = grind (arith, below-past, length-map)
