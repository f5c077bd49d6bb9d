use Rattle.roman_joint.proofs.Common.{◌≡◌, ◌*◌, ◌<◌, arith, refl, length, length-map, numbered, system_of, seat_of, is_beaten, band_in, on_zero}
use Rattle.roman_joint.proofs.GoodLemmas.{known, moves_few}
use Rattle.roman_joint.proofs.BandLemmas.{beaten_moving, keeps_by, keeps_all}
use Rattle.roman_joint.proofs.band.clear_within.Goals as goal

pub returns-then-some-eq0 : goal.returns-then-some-eq0
returns-then-some-eq0 c = record {
  long = refl;
  left = λ y gone ok rows living.
      let n = c.args.joint.now in
      let s = system_of n in
      let h = known n (y * band_in s) c.args.attempt.now.row.now c.layout.ensures.known ok in
      let seat : c.args.k < length s.seats = omega (arith, c.requires.seat, length-map n.seats (seat_of n.catalogue)) in
      let are = rw c.if-some-eq0.true at c.lane_moves-some.ensures in
      keeps_all s (y * band_in s) (band_in s) (λ p. is_beaten (numbered s) gone p c.args.attempt.now.action c.args.k) c.args.left.now
      (λ i lane l m. let beaten = beaten_moving s _ y _ _ _ h c.layout.ensures.rows c.requires.band.is_attempt.1.to i c.args.k 0 lane _ _ gone l c.requires.within seat are living m in grind (arith, on_zero));
}

pub clear_moving-requires-clause-moves : goal.clear_moving-requires-clause-moves
clear_moving-requires-clause-moves c = c.lane_moves-some.ensures.small

pub returns : goal.returns
returns c = record {
  long = c.clear_moving.ensures.long;
  left = λ y gone ok rows living.
      let n = c.args.joint.now in
      let s = system_of n in
      let h = known n (y * band_in s) c.args.attempt.now.row.now c.layout.ensures.known ok in
      let seat : c.args.k < length s.seats = omega (arith, c.requires.seat, length-map n.seats (seat_of n.catalogue)) in
      let are = c.lane_moves-some.ensures in
      keeps_by s _ _ (λ p. is_beaten (numbered s) gone p c.args.attempt.now.action c.args.k) _ _ c.requires.band.long c.clear_moving.ensures.long
      (λ i lane l m.
      let beaten = beaten_moving s _ y _ _ _ h c.layout.ensures.rows c.requires.band.is_attempt.1.to i c.args.k _ lane _ _ gone l c.requires.within seat are living m in
      let few = moves_few _ _ _ lane _ _ are m in
      rw beaten at ((c.clear_moving.ensures.each i (omega (arith, l, c.requires.band.long))).each lane few.0 few.1))
      (λ i lane l. (c.clear_moving.ensures.each i (omega (arith, l, c.requires.band.long))).none lane);
}
