use Rattle.roman_session.proofs.Common.{fill_stops, arith, ◌∙◌, fill_same, fill_more, fill_end}
use Rattle.roman_session.proofs.LineLemmas.{next_line, no_line}
use Rattle.roman_session.proofs.session.reports.push_lines.Goals as goal

pub returns-in_err-push_report_line-clause-gathers : goal.returns-in_err-push_report_line-clause-gathers
returns-in_err-push_report_line-clause-gathers g c =
    let next = next_line c.args.lines.now c.loop-line.line-index _ (omega arith) c.line-item.is in
    fill_stops _ _ _ _ _ _ _ _ _ _ c.from_residual.ensures.1 (fill_same _ _ _ _ _ _ next c.loop-line.invariant.filling) c.in_err-push_report_line.ensures.gathers

pub loop-line-preserved : goal.loop-line-preserved
loop-line-preserved g c =
    let next = next_line c.args.lines.now c.loop-line.line-index _ (omega arith) c.line-item.is in
    record {
      filling = fill_more _ _ _ _ _ _ _ _ (fill_same _ _ _ _ _ _ next c.loop-line.invariant.filling) c.in_ok-push_report_line.ensures.gathers;
      cause = c.in_ok-push_report_line.ensures.cause.stays ∙ c.loop-line.invariant.cause;
    }

pub returns-clause-gathers : goal.returns-clause-gathers
returns-clause-gathers g c = grind (arith, fill_end, fill_same, no_line)
