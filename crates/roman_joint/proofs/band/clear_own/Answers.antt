use Rattle.roman_joint.proofs.Common.{◌≡◌, ℕ, ◌+◌, ◌-◌, ◌*◌, ◌/◌, ◌%◌, ◌<◌, not, ◌&&◌, [], slice_index, refl, sym, ap, ap₂, ◌∙◌, arith, inl, inr, cases_lt, is_empty, is_beaten, numbered, beh_next, is_on, list_any, band_in, system_of}
use Rattle.roman_joint.proofs.OutcomeLemmas.{ready_next}
use Rattle.roman_joint.proofs.SeatLemmas.{len_empty}
use Rattle.roman_joint.proofs.WordLemmas.{all_pass}
use Rattle.roman_joint.proofs.GoodLemmas.{known}
use Rattle.roman_joint.proofs.BandLemmas.{OwnRows, own_rows, beaten_own, keeps_all, keeps_by}
use Rattle.roman_joint.proofs.band.clear_own.Goals as goal
use Rattle.roman_joint.proofs.band.clear_own.Goals.{After-layout-rows, After-from}

own : (c : After-layout-rows) → OwnRows (system_of c.args.joint.now) c.layout-rows.result.now c.args.k
own c = own_rows (system_of c.args.joint.now) c.layout-rows.result.now c.args.k c.layout-rows.ensures.rows c.requires.within c.requires.seat

step : (c : After-from) → c.from.result * slice_index c.layout-rows.result.now.strides c.args.k ≡ slice_index c.layout-rows.result.now.sizes c.args.k * slice_index c.layout-rows.result.now.strides c.args.k
step c = ap (λ z. z * slice_index c.layout-rows.result.now.strides c.args.k) c.from.ensures

pub returns-then-seat : goal.returns-then-seat
returns-then-seat c = record {
  long = refl;
  left = λ y gone ok rows living.
      let n = c.args.joint.now in
      let s = system_of n in
      let attempt = c.args.attempt.now in
      let h = known n (y * band_in s) attempt.row.now c.layout-rows.ensures.known ok in
      keeps_all s (y * band_in s) (band_in s) (λ p. is_beaten (numbered s) gone p attempt.action c.args.k) c.args.left.now
      (λ i lane l m. sym (beaten_own s c.layout-rows.result.now y attempt.action attempt.row.now attempt.to h c.layout-rows.ensures.rows c.requires.band.is_attempt.1.to i c.args.k _ lane [] c.args.alive.now gone l c.requires.within c.requires.seat refl
      (grind (arith, c.service.ensures.seated)) living m));
}

pub overflow_mul-blocks : goal.overflow_mul-blocks
overflow_mul-blocks c = omega (arith, step (goal.at.overflow_mul-blocks c).After-from, (own (goal.at.overflow_mul-blocks c).After-layout-rows).few)

pub nonzero_div-blocks : goal.nonzero_div-blocks
nonzero_div-blocks c = omega (arith, step (goal.at.nonzero_div-blocks c).After-from, (own (goal.at.nonzero_div-blocks c).After-layout-rows).some)

pub loop-b-preserved-then-is_empty : goal.loop-b-preserved-then-is_empty
loop-b-preserved-then-is_empty c =
    let r = c.layout-rows.result.now in
    let before = c.loop-b.invariant in
    let none = ap is_empty (sym c.out-states.ensures.next) ∙ (sym (len_empty c.out-states.result.now) ∙ (sym c.is_empty.ensures ∙ c.if-is_empty.true)) in
    record {
      long = before.long;
      each = λ i lane l less. elim (cases_lt (i / slice_index r.strides c.args.k % slice_index r.sizes c.args.k) c.loop-b.b) [
        | inl low ↦ before.each i lane l low
        | inr past ↦
            let same : i / slice_index r.strides c.args.k % slice_index r.sizes c.args.k ≡ c.loop-b.b = omega arith in
            rw (same, none, before.others i past) (all_pass _)
      ];
      others = λ i past. before.others i (omega arith);
    }

pub clear_state-requires-clause-blocks : goal.clear_state-requires-clause-blocks
clear_state-requires-clause-blocks c =
    let all = slice_index c.layout-rows.result.now.sizes c.args.k * slice_index c.layout-rows.result.now.strides c.args.k in
    c.loop-b.invariant.long ∙ (c.requires.band.long ∙ (sym (own (goal.at.clear_state-requires-clause-blocks c).After-layout-rows).whole ∙ sym (ap₂ (λ v z. v / z * all) c.layout-rows.ensures.rows.band (step (goal.at.clear_state-requires-clause-blocks c).After-from))))

pub clear_state-requires-clause-component : goal.clear_state-requires-clause-component
clear_state-requires-clause-component c =
    let own = own (goal.at.clear_state-requires-clause-component c).After-layout-rows in
    record {
      step = own.few;
      stride_some = own.seat.stride_some;
      state = c.loop-b-test.true;
      states_below = λ j d l. omega (arith, c.out-states.ensures.below j d l, c.service.ensures.size, own.seat.size, own.seat.same);
    }

pub loop-b-preserved : goal.loop-b-preserved
loop-b-preserved c =
    let r = c.layout-rows.result.now in
    let u = slice_index r.strides c.args.k in
    let before = c.loop-b.invariant in
    let some = sym (len_empty c.out-states.result.now) ∙ (sym c.is_empty.ensures ∙ c.if-is_empty.false) in
    record {
      long = c.clear_state.ensures.long ∙ before.long;
      each = λ i lane l less. elim (cases_lt (i / u % slice_index r.sizes c.args.k) c.loop-b.b) [
        | inl low ↦ ap (λ z. is_on z lane) (c.clear_state.ensures.others i (λ e. absurd (omega (arith, low, e)))) ∙ before.each i lane l low
        | inr past ↦
            let same : i / u % slice_index r.sizes c.args.k ≡ c.loop-b.b = omega arith in
            let first : 0 + (i - c.loop-b.b * u) ≡ i - c.loop-b.b * u = omega arith in
            c.clear_state.ensures.each i (omega (arith, l, before.long)) same lane
            ∙ (ap₂ (λ z y. is_on z lane && list_any (λ d. not (is_on (slice_index c.args.alive.now (y + d * u)) lane)) c.out-states.result.now) (before.others i past) first
            ∙ rw (same, ← c.out-states.ensures.next, some) refl)
      ];
      others = λ i past. c.clear_state.ensures.others i (λ e. absurd (omega (arith, past, e))) ∙ before.others i (omega arith);
    }

pub returns : goal.returns
returns c = record {
  long = c.loop-b.invariant.long;
  left = λ y gone ok rows living.
      let n = c.args.joint.now in
      let s = system_of n in
      let attempt = c.args.attempt.now in
      let of = c.service.ensures in
      let own = own (goal.at.returns c).After-layout-rows in
      let h = known n (y * band_in s) attempt.row.now c.layout-rows.ensures.known ok in
      let digit = λ (i : ℕ). i / slice_index c.layout-rows.result.now.strides c.args.k % slice_index c.layout-rows.result.now.sizes c.args.k in
      let each = λ (i lane : ℕ) (l : i < band_in s). c.loop-b.invariant.each i lane (omega (arith, l, c.requires.band.long)) (omega (arith, c.loop-b-test.false, own.state i, own.seat.size, own.seat.same, own.below i)) in
      keeps_by s _ _ (λ p. is_beaten (numbered s) gone p attempt.action c.args.k) _ _ c.requires.band.long c.loop-b.invariant.long
      (λ i lane l m.
      let next = sym (ready_next _ _ (digit i) attempt.row.now.env attempt.action of.seated c.if-seat.false ∙ ap (λ z. beh_next z (digit i) attempt.row.now.env attempt.action) (sym of.beh)) in
      rw (beaten_own s c.layout-rows.result.now y attempt.action attempt.row.now attempt.to h c.layout-rows.ensures.rows c.requires.band.is_attempt.1.to i c.args.k (digit i) lane _ c.args.alive.now gone l c.requires.within c.requires.seat (sym (own.state i)) next living m) at (each i lane l))
      (λ i lane l off. let here = each i lane l in grind arith);
}
