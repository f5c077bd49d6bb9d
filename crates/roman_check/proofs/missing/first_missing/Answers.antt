use Rattle.roman_check.proofs.Common.{◌*◌, ◌+◌, ◌%◌, ◌^◌, Some, rules, arith, ap, ◌∙◌, mul-le, trailing_zeros, w64, row_fits}
use Rattle.roman_check.proofs.ReasonLemmas.{row_searched, least_missing, all_searched}
use Rattle.roman_check.proofs.missing.first_missing.Goals as goal

pub returns-then-missing-ne0 : goal.returns-then-missing-ne0
returns-then-missing-ne0 g c L rows =
    ap (λ m. Some ((c.loop-x.x * m + trailing_zeros w64 c.missing_in-missing.result) % 2 ^ 32)) c.lanes-lanes.ensures.value
    ∙ least_missing _ _ _ _ _ c.loop-x.invariant c.missing_in-missing.ensures c.known.ensures.numbered c.if-missing-ne0.true (search rules) (omega (arith, row_fits _ (g.J.Rules.lanes c.args.joint.now) _ (g.J.Rules.lanes c.args.joint.now) c.loop-x-test.true (omega arith), c.rows-x-end.ensures)) L rows

pub loop-x-preserved : goal.loop-x-preserved
loop-x-preserved g c = row_searched _ _ _ _ _ c.loop-x.invariant c.missing_in-missing.ensures c.if-missing-ne0.false

pub returns : goal.returns
returns g c =
    let lanes = g.J.Rules.lanes c.args.joint.now in
    all_searched _ _ _ _ c.known.ensures.numbered (omega (arith, mul-le c.rows-x-end.result lanes c.loop-x.x lanes c.loop-x-test.false (omega arith), c.rows-x-end.ensures)) c.loop-x.invariant
