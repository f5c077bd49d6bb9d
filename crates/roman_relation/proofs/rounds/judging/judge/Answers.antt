use Rattle.roman_relation.proofs.Common.{ℕ, ◌+◌, ◌*◌, ◌/◌, ◌<◌, Bool, not, inl, inr, ap, ◌∙◌, arith, cases_eq, eq-eqb, by_test, in_below, any_from, unallowed_unjustified, is_on, AreRows, below, is_justified, Act, AddsLost, Board, bit_at, bit_of}
use Rattle.roman_relation.proofs.Bands.{band_at}
use Rattle.roman_relation.proofs.Beginnings.{begins_unlisted}
use Rattle.roman_relation.proofs.Pushing.{adds_on}
use Rattle.roman_relation.proofs.rounds.judging.judge.Goals as goal

pub loop-a-preserved : goal.loop-a-preserved
loop-a-preserved g c =
    let A = g.J.Rules.arena c.args.joint.now in
    let n = g.J.Rules.lanes c.args.joint.now in
    let w = g.J.Rules.band c.args.joint.now in
    let x = c.band_start-x.result in
    let a = c.loop-a.a in
    let old = c.loop-a.order in
    let new = c.judge_on.new.order in
    let inv = c.loop-a.invariant in
    let lost : (gone : ℕ → Bool) → AreRows n (λ p. not (gone p)) c.args.order.now.before → AddsLost A gone n x w (Act a) old.list new.list = λ gone kept.
    c.judge_on.ensures.adds gone (rw inv.rest kept) in
    record {
      rest = c.judge_on.ensures.rest ∙ ap (λ (d : Board). record d { list = new.list }) inv.rest;
      long = c.judge_on.ensures.long ∙ inv.long;
      adds = λ gone kept. adds_on A gone _ _ c.args.order.now.list old.list new.list (inv.adds gone kept) (lost gone kept).adds
          (λ p m. (any_from (λ d. is_justified A gone p (Act d)) a (below A.actions) (in_below A.actions a (omega (arith, c.actions-a-end.ensures))) m.0, band_at w c.args.y (p / n) (omega (arith, m.1)) (omega (arith, m.1))));
      judged = λ gone i lane b kept h l m on off. elim (cases_eq b a) [
        | inl e ↦ rw e ((lost gone kept).left i lane h l off)
        | inr ne ↦ inv.judged gone i lane b kept h l (omega arith) on (begins_unlisted A old.list new.list _ (lost gone kept).adds.begins off)
      ];
    }

pub returns-clause-done : goal.returns-clause-done
unfolding is_on
returns-clause-done g c gone i lane kept is_band h l off a =
    let A = g.J.Rules.arena c.args.joint.now in
    let p : ℕ = (c.args.y * g.J.Rules.band c.args.joint.now + i) * g.J.Rules.lanes c.args.joint.now + lane in
    let ok = c.known.ensures.numbered in
    by_test (A.allows p a) (λ t.
    let within : a < A.actions = ok.allowed p a t in
    let bit = (c.row_actions-allowed.ensures.band c.args.y i lane c.first_row-row.ensures h l).each a (omega (arith, within, ok.few_actions)) in
    let judged = c.loop-a.invariant.judged gone i lane a kept h l (omega (arith, within, c.loop-a-test.false, c.actions-a-end.ensures)) (eq-eqb (bit_at c.row_actions-allowed.result a) 1 (bit ∙ ap bit_of t)) in
    (rw c.band_start-x.ensures at judged) off) (λ refused. unallowed_unjustified A _ p a refused)
