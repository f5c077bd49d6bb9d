use Rattle.roman_session.proofs.Common.{fill_stops, ◌≤◌, length, arith, fill_behind, fill_same, fill_more, fill_last}
use Rattle.roman_session.proofs.LineLemmas.{next_service, no_service}
use Rattle.roman_session.proofs.session.Session.push_services.Goals as goal

pub loop-k-init : goal.loop-k-init
loop-k-init g c = grind (arith, fill_behind)

pub returns-in_err-push_report_line-clause-gathers : goal.returns-in_err-push_report_line-clause-gathers
returns-in_err-push_report_line-clause-gathers g c =
    let s = c.args.self.now in
    let next = next_service s.parts s.here c.loop-k.k c.service_line.result c.service_line.ensures in
    fill_stops _ _ _ _ _ _ _ _ _ _ c.from_residual.ensures.1 (fill_same _ _ _ _ _ _ next c.loop-k.invariant.filling) c.in_err-push_report_line.ensures.gathers

pub loop-k-preserved : goal.loop-k-preserved
loop-k-preserved g c = grind (arith, fill_more, fill_same, next_service)

pub returns-clause-gathers : goal.returns-clause-gathers
returns-clause-gathers g c =
    let s = c.args.self.now in
    let past : length s.parts.seats ≤ c.loop-k.k = grind arith in
    let none = no_service s.parts s.here c.loop-k.k c.composes.result past c.composes.ensures in
    fill_last _ _ _ _ _ _ _ _ (fill_same _ _ _ _ _ _ none c.loop-k.invariant.filling) c.push_report_line-2.ensures.gathers
