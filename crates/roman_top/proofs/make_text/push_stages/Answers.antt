use Rattle.roman_top.proofs.Common.{fill_stops, ap, ◌∙◌, arith, fill_same, fill_more, fill_last, line_of_stage}
use Rattle.roman_top.proofs.MakeStageLemmas.{lines_of-drop, lines_of-end}
use Rattle.roman_top.proofs.make_text.push_stages.Goals as goal

pub returns-in_err-push-clause-gathers : goal.returns-in_err-push-clause-gathers
returns-in_err-push-clause-gathers g c =
    let next = lines_of-drop c.args.stages.now c.loop-stage.stage-index c.stage-item.result c.bytes.result.now c.loop-stage-test.true (c.bytes.ensures ∙ c.stage_piece.ensures ∙ ap line_of_stage c.stage-item.is) in
    fill_stops _ _ _ _ _ _ _ _ _ _ c.from_residual.ensures.1 (fill_same _ _ _ _ _ _ next c.loop-stage.invariant.filling) c.in_err-push.ensures.gathers

pub loop-stage-preserved : goal.loop-stage-preserved
loop-stage-preserved g c =
    let next = lines_of-drop c.args.stages.now c.loop-stage.stage-index c.stage-item.result c.bytes.result.now c.loop-stage-test.true (c.bytes.ensures ∙ c.stage_piece.ensures ∙ ap line_of_stage c.stage-item.is) in
    record {
      filling = fill_more _ _ _ _ _ _ _ _ (fill_same _ _ _ _ _ _ next c.loop-stage.invariant.filling) c.in_ok-push.ensures.gathers;
      cause = c.in_ok-push.ensures.cause.stays ∙ c.loop-stage.invariant.cause;
    }

pub returns-clause-gathers : goal.returns-clause-gathers
returns-clause-gathers g c =
    let last = lines_of-end c.args.stages.now c.loop-stage.stage-index (omega arith) in
    fill_last _ _ _ _ _ _ _ c.push-2.result (fill_same _ _ _ _ _ _ last c.loop-stage.invariant.filling) c.push-2.ensures.gathers
