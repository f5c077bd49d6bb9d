use Rattle.roman_joint.proofs.Common.{◌≡◌, ℕ, ◌+◌, ◌*◌, ◌<◌, true, not, ◌&&◌, slice_index, sum_by, ap, ap₂, ◌∙◌, arith, below, is_beaten, sizes_of, numbered, lanes_few, is_on, HasLanes, sum_below_more, served_by, ones_counted, ones_few, system_of, lanes_in, band_in}
use Rattle.roman_joint.proofs.GoodLemmas.{full_on, full_off}
use Rattle.roman_joint.proofs.band.served_by.Goals as goal

pub loop-i-preserved : goal.loop-i-preserved
loop-i-preserved c =
    let s = system_of c.args.joint.now in
    let w = lanes_in s in
    let i = c.loop-i.i in
    let r = c.layout-rows.result.now in
    record {
      counted = λ y gone ok rows living.
          let x = y * band_in s + i in
          let beaten = λ (p : ℕ). is_beaten (numbered s) gone p c.args.attempt.now.action c.args.k in
          let within : i < band_in s = omega (arith, c.loop-i-test.true, c.layout-rows.ensures.rows.band) in
          let left = c.clear_seat.ensures.left y gone ok rows living in
          let word : HasLanes w x (λ p. not (beaten p)) c.less.result = record {
            each = λ lane l.
                let full : is_on r.full lane ≡ true = full_on (sizes_of s) r lane c.layout-rows.ensures.rows l in
                let first : is_on (slice_index c.set_first.new.to i) lane ≡ true = ap (λ z. is_on z lane) (c.set_first.ensures.each i (omega (arith, c.loop-i-test.true))) ∙ full in
                c.less.ensures lane ∙ ap₂ (λ a b. a && not b) full (left.each i lane within l ∙ ap (λ a. a && beaten (x * w + lane)) first);
            rest = λ lane l. c.less.ensures lane ∙ ap (λ b. b && not (is_on (slice_index c.clear_seat.new.left i) lane)) (full_off (sizes_of s) r lane c.layout-rows.ensures.rows l);
          } in
          let ones = ones_counted w x (λ p. not (beaten p)) c.less.result (lanes_few (sizes_of s).seats) c.less.type_inv word in
          omega (arith, c.loop-i.invariant.counted y gone ok rows living, ones, sum_below_more (λ (i : ℕ). served_by (numbered s) gone w (y * band_in s + i) c.args.attempt.now.action c.args.k) i);
      bound = omega (arith, c.loop-i.invariant.bound, ones_few c.less.result c.less.type_inv);
    }

pub returns-clause-counted : goal.returns-clause-counted
returns-clause-counted c y gone ok rows living =
    let s = system_of c.args.joint.now in
    let end : c.loop-i.i ≡ band_in s = omega (arith, c.loop-i-test.false, c.layout-rows.ensures.rows.band) in
    c.loop-i.invariant.counted y gone ok rows living ∙ ap (λ m. sum_by (λ (i : ℕ). served_by (numbered s) gone (lanes_in s) (y * band_in s + i) c.args.attempt.now.action c.args.k) (below m)) end

pub returns-clause-few : goal.returns-clause-few
returns-clause-few c = omega (arith, c.loop-i.invariant.bound, c.layout-rows.ensures.rows.band_range)

pub overflow_add-count : goal.overflow_add-count
overflow_add-count c = omega (arith, c.loop-i.invariant.bound, ones_few c.less.result c.less.type_inv, c.loop-i-test.true, c.layout-rows.ensures.rows.band_range)
