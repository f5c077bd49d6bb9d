use Rattle.roman_check.proofs.Common.{◌≡◌, ◌+◌, ◌*◌, ap, ◌∙◌, sym, subst, arith, NoneMissing}
use Rattle.roman_check.proofs.ReasonLemmas.{rows_searched}
use Rattle.roman_check.proofs.missing.rows_complete.Goals as goal

pub loop-y-preserved : goal.loop-y-preserved
loop-y-preserved g c =
    let lanes = g.J.Rules.lanes c.args.joint.now in
    let band = g.J.Rules.band c.args.joint.now in
    let next : c.loop-y.y * band + band ≡ (c.loop-y.y + 1) * band = omega arith in
    record {
      long = c.misses_some.ensures.long ∙ c.loop-y.invariant.long;
      none = subst (λ n. NoneMissing (g.J.Rules.arena c.args.joint.now) lanes c.args.words.now (n * lanes)) next (rows_searched _ _ _ (c.loop-y.y * band) band c.loop-y.invariant.none (c.misses_some.ensures.none c.if-misses_some.false));
    }

pub returns-then-misses_some : goal.returns-then-misses_some
returns-then-misses_some g c =
    let lanes = g.J.Rules.lanes c.args.joint.now in
    subst (λ m. NoneMissing (g.J.Rules.arena c.args.joint.now) lanes c.args.words.now (c.loop-y.y * m * lanes)) (sym c.band-band.ensures.value) c.loop-y.invariant.none

pub returns : goal.returns
returns g c =
    let lanes = g.J.Rules.lanes c.args.joint.now in
    let end : c.loop-y.y ≡ c.bands-y-end.result = omega (arith, c.loop-y-test.false) in
    subst (NoneMissing (g.J.Rules.arena c.args.joint.now) lanes c.args.words.now) (ap (λ k. k * g.J.Rules.band c.args.joint.now * lanes) end ∙ c.bands-y-end.ensures ∙ sym c.rows.ensures) c.loop-y.invariant.none
