use Rattle.roman_joint.proofs.Common.{◌<◌, length, arith, length-map, seat_of, system_of}
use Rattle.roman_joint.proofs.GoodLemmas.{known, moves_beaten, moves_few}
use Rattle.roman_joint.proofs.good.good_within.Goals as goal

pub moves_alive-requires : goal.moves_alive-requires
moves_alive-requires c = c.lane_moves-some.ensures.small

pub returns : goal.returns
returns c = record {
  each = λ x gone ok rows living.
      let n = c.args.joint.now in
      let s = system_of n in
      let seat : c.args.k < length s.seats = omega (arith, c.requires.seat, length-map n.seats (seat_of n.catalogue)) in
      let are = c.lane_moves-some.ensures in
      record {
        each = λ lane l.
            let beaten = moves_beaten s x _ c.args.k c.args.alive _ _ gone (known n x _ c.known.ensures ok) c.requires.attempt.1.to c.requires.within seat living _ _ are lane l in
            let few = moves_few _ _ _ lane _ _ are l in
            grind (arith, (c.moves_alive.ensures.each lane few.0 few.1));
        rest = λ lane l. c.moves_alive.ensures.none lane (are.rest lane l);
      };
}
