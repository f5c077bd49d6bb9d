use Rattle.roman_joint.proofs.Common.{◌*◌, arith, refl, is_beaten, numbered, sizes_of, system_of, band_in}
use Rattle.roman_joint.proofs.GoodLemmas.{known, full_on}
use Rattle.roman_joint.proofs.BandLemmas.{suits_band, band_beaten, beaten_band, keeps_by, keeps_all}
use Rattle.roman_joint.proofs.band.clear_before.Goals as goal

pub returns-in_default : goal.returns-in_default
returns-in_default c alive = record {
  long = refl;
  left = λ y gone ok rows living.
      let s = system_of c.args.joint.now in
      let h = known c.args.joint.now (y * band_in s) c.args.attempt.now.row.now c.layout-rows.ensures.known ok in
      keeps_all s _ _ (λ p. is_beaten (numbered s) gone p c.args.attempt.now.action c.args.k) _
      (λ i lane l m. beaten_band s c.layout-rows.result.now y _ _ _ h c.layout-rows.ensures.rows c.requires.attempt.1.to i c.args.k lane gone l c.requires.seat c.in_default.ensures m);
}

pub clear_alive-requires-clause-rows : goal.clear_alive-requires-clause-rows
clear_alive-requires-clause-rows c =
    let s = system_of c.args.joint.now in
    let (y, is) = c.requires.attempt in
    let h = known c.args.joint.now (y * band_in s) c.args.attempt.now.row.now c.layout-rows.ensures.known is.row in
    rw c.requires.long (suits_band s c.layout-rows.result.now y _ _ _ h c.layout-rows.ensures.rows is.to c.args.k _ c.in-Some.to c.requires.seat is.room c.in-Some.ensures)

pub returns : goal.returns
returns c alive = record {
  long = c.clear_alive.ensures.long;
  left = λ y gone ok rows living.
      let s = system_of c.args.joint.now in
      let r = c.layout-rows.result.now in
      let laid = c.layout-rows.ensures.rows in
      let h = known c.args.joint.now (y * band_in s) c.args.attempt.now.row.now c.layout-rows.ensures.known ok in
      keeps_by s _ _ (λ p. is_beaten (numbered s) gone p c.args.attempt.now.action c.args.k) _ _ c.requires.long c.clear_alive.ensures.long
      (λ i lane l m.
      let beaten = band_beaten s r y _ _ _ h laid c.requires.attempt.1.to i c.args.k lane c.in-Some.to c.args.attempt.now.words.now gone l c.requires.seat c.requires.attempt.1.room c.in-Some.ensures rows m in
      rw beaten at ((c.clear_alive.ensures.each i (omega (arith, l, c.requires.long))).each lane (full_on (sizes_of s) r lane laid m)))
      (λ i lane l. (c.clear_alive.ensures.each i (omega (arith, l, c.requires.long))).none lane);
}
