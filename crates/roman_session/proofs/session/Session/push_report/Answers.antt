use Rattle.roman_session.proofs.Common.{fill_stops, fill_behind, fill_more, fill_last}
use Rattle.roman_session.proofs.LineLemmas.{report_is}
use Rattle.roman_session.proofs.session.Session.push_report.Goals as goal

pub returns-in_err-push_lines-clause-gathers : goal.returns-in_err-push_lines-clause-gathers
returns-in_err-push_lines-clause-gathers g c =
    let s = c.args.self.now in
    let begun = fill_behind _ _ _ _ (report_is s.parts s.here _ c.head_lines.ensures) in
    fill_stops _ _ _ _ _ _ _ _ _ _ c.from_residual.ensures.1 begun c.in_err-push_lines.ensures.gathers

pub returns-in_err-push_services-clause-gathers : goal.returns-in_err-push_services-clause-gathers
returns-in_err-push_services-clause-gathers g c =
    let s = c.args.self.now in
    let begun = fill_behind _ _ _ _ (report_is s.parts s.here _ c.head_lines.ensures) in
    let first = fill_more _ _ _ _ _ _ _ _ begun c.in_ok-push_lines.ensures.gathers in
    fill_stops _ _ _ _ _ _ _ _ _ _ c.from_residual-in_err-push_services.ensures.1 first c.in_err-push_services.ensures.gathers

pub returns-clause-gathers : goal.returns-clause-gathers
returns-clause-gathers g c =
    let s = c.args.self.now in
    let begun = fill_behind _ _ _ _ (report_is s.parts s.here _ c.head_lines.ensures) in
    let first = fill_more _ _ _ _ _ _ _ _ begun c.in_ok-push_lines.ensures.gathers in
    let second = fill_more _ _ _ _ _ _ _ _ first c.in_ok-push_services.ensures.gathers in
    fill_last _ _ _ _ _ _ _ _ second c.push_offers.ensures.gathers
