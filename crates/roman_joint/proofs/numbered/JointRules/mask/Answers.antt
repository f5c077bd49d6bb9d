use Rattle.roman_joint.proofs.Common.{◌≡◌, ◌+◌, ◌*◌, ◌^◌, ◌/◌, ◌<◌, eqb, bit_and, sym, ap, subst, ◌∙◌, arith, shr_and_one, length-map, has, mask, numbered, is_on, HasBits, system_of, seat_of, lanes_in, AreAlive, has_good, mask_more, mask_all}
use Rattle.roman_joint.proofs.ArenaFacts.{joint_numbered}
use Rattle.roman_joint.proofs.GoodLemmas.{known, beaten_dead}
use Rattle.roman_joint.proofs.numbered.JointRules.mask.Goals as goal

pub loop-k-preserved : goal.loop-k-preserved
unfolding is_on
loop-k-preserved c = record {
  bits = λ x gone ok rows.
      let n = c.args.self.now in
      let A = numbered (system_of n) in
      let p = x * lanes_in (system_of n) + c.args.lane in
      let k = c.loop-k.k in
      let seat : k < A.seats = omega (arith, length-map n.seats (seat_of n.catalogue), c.serving-k-end.ensures.few, c.loop-k-test.true) in
      let word = c.good_on-good.ensures.each x gone ok rows (c.alive_on-alive.ensures gone rows) in
      let good : eqb (bit_and (c.good_on-good.result / 2 ^ c.args.lane) 1) 1 ≡ has (mask A gone p c.args.a) k =
      ap (λ w. eqb w 1) (shr_and_one c.good_on-good.result c.args.lane) ∙ (word.each c.args.lane c.requires.lane ∙ sym (has_good A (joint_numbered n c.known.ensures) gone p c.args.a k seat)) in
      mask_more A gone p c.args.a k c.loop-k.mask c.with-mask.result _ good c.with-mask.ensures.own c.with-mask.ensures.others (c.loop-k.invariant.bits x gone ok rows) c.loop-k.invariant.rest;
  rest = λ j l. c.with-mask.ensures.others j (omega arith) ∙ c.loop-k.invariant.rest j (omega arith);
}

pub returns : goal.returns
returns c x gone ok rows =
    let n = c.args.self.now in
    let s = system_of n in
    let seats = length-map n.seats (seat_of n.catalogue) in
    let h = known _ _ _ c.known.ensures ok in
    let living = c.alive_on-alive.ensures gone rows in
    let p = x * lanes_in s + c.args.lane in
    subst (λ bits. HasBits bits (has (mask (numbered s) gone p c.args.a))) (sym c.mask.view_is) (mask_all _ (joint_numbered _ c.known.ensures) _ _ _ _ _ (λ k past l.
    let (within, dead) = c.serving-k-end.ensures.rest k (omega arith) (omega (arith, seats)) in
    beaten_dead _ _ _ _ _ _ _ _ h c.in-Some.ensures within l (subst (AreAlive s gone c.in-Some.to) dead living) c.requires.lane)
    (c.loop-k.invariant.bits x gone ok rows) c.loop-k.invariant.rest)
