use Rattle.roman_session.proofs.Common.{fill_stops, fill_behind, fill_more, fill_last}
use Rattle.roman_session.proofs.LineLemmas.{offer_text_is}
use Rattle.roman_session.proofs.SituationLemmas.{offered_open}
use Rattle.roman_session.proofs.session.Session.push_offered.Goals as goal

pub returns-in_err-push-clause-gathers : goal.returns-in_err-push-clause-gathers
returns-in_err-push-clause-gathers g c =
    let requested = offered_open c.args.self.now c.args.a c.known.ensures c.requires in
    let all = offer_text_is c.args.self.now c.args.a c.offered-mask.result c.known.ensures.parts.system.few requested.1 c.offered-mask.ensures in
    fill_stops _ _ _ _ _ _ _ _ _ _ c.from_residual.ensures.1 (fill_behind _ _ _ _ all) c.in_err-push.ensures.gathers

pub returns-clause-gathers : goal.returns-clause-gathers
returns-clause-gathers g c =
    let requested = offered_open c.args.self.now c.args.a c.known.ensures c.requires in
    let all = offer_text_is c.args.self.now c.args.a c.offered-mask.result c.known.ensures.parts.system.few requested.1 c.offered-mask.ensures in
    fill_last _ _ _ _ _ _ _ _ (fill_more _ _ _ _ _ _ _ _ (fill_behind _ _ _ _ all) c.in_ok-push.ensures.gathers) c.push_served.ensures.gathers
