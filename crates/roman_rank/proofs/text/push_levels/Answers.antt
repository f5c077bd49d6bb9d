use Rattle.roman_rank.proofs.Common.{◌∙◌, arith, err_from_is_err_and, fill_more, fill_failed, fill_same}
use Rattle.roman_rank.proofs.Telling.{next_line}
use Rattle.roman_rank.proofs.text.push_levels.Goals as goal

pub returns-in_err-push-clause-gathers : goal.returns-in_err-push-clause-gathers
returns-in_err-push-clause-gathers g c =
    let next = next_line c.args.counts.now c.loop-n.n c.bytes.result.now (omega (arith, c.loop-n-test.true)) (c.bytes.ensures ∙ c.level_piece.ensures) in
    let p = err_from_is_err_and c.from_residual.result c.from_residual.ensures.1 in
    rw p.1 (fill_failed _ _ _ _ _ _ _ (fill_same _ _ _ _ _ _ next c.loop-n.invariant.filling) c.in_err-push.ensures.gathers.0, c.in_err-push.ensures.gathers.1)

pub loop-n-preserved : goal.loop-n-preserved
loop-n-preserved g c =
    let next = next_line c.args.counts.now c.loop-n.n c.bytes.result.now (omega (arith, c.loop-n-test.true)) (c.bytes.ensures ∙ c.level_piece.ensures) in
    record {
      filling = fill_more _ _ _ _ _ _ _ _ (fill_same _ _ _ _ _ _ next c.loop-n.invariant.filling) c.in_ok-push.ensures.gathers;
      cause = c.in_ok-push.ensures.cause.stays ∙ c.loop-n.invariant.cause;
    }
