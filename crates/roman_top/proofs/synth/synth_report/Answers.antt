use Rattle.roman_top.proofs.Common.{◌≡◌, refl, present_system, report_text, IsStart, Synth, EndsBy}
use Rattle.roman_top.proofs.OpeningLemmas.{opened_does, says_ends}
use Rattle.roman_top.proofs.SynthLemmas.{ends_as, reported_is_run}
use Rattle.roman_top.proofs.synth.synth_report.Goals as goal

pub returns : goal.returns
returns g c =
    let s = c.in-Ok.session in
    let (said, by) = ends_as s c.composes.result c.status_of-status.result c.known.ensures c.composes.ensures c.status_of-status.ensures in
    opened_does IsStart s (λ text ends. (text ≡ report_text s.parts s.here) × EndsBy (present_system s) s.here ends) c.args.system.now Synth _ _ _ c.finish.result c.in-Ok.ensures.opens
    (λ texts library is. reported_is_run s library is)
    ((says_ends (λ text ends. (text ≡ report_text s.parts s.here) × EndsBy (present_system s) s.here ends) _ _ _ _ (report_text s.parts s.here) c.status_of-status.result c.finish.result c.report.result said (refl, by)
    c.report.ensures.report c.report.ensures.cause c.finish.ensures).ends _ _)
