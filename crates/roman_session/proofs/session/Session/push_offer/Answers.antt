use Rattle.roman_session.proofs.Common.{fill_stops, ◌<◌, sym, ap, ◌∙◌, subst, name_at, NamedSys, system_of, present_system, fill_behind, fill_more, fill_last, allowed_in_range}
use Rattle.roman_session.proofs.LineLemmas.{offer_line_is}
use Rattle.roman_session.proofs.session.Session.push_offer.Goals as goal

pub action_name-requires : goal.action_name-requires
action_name-requires g c =
    let s = c.args.self.now in
    subst (λ (n : NamedSys). c.args.a < (system_of n).env.actions) (sym c.joint.ensures) (allowed_in_range (present_system s) s.here c.args.a c.known.ensures.parts.system c.requires.1)

pub returns-in_err-push_report_line-clause-gathers : goal.returns-in_err-push_report_line-clause-gathers
returns-in_err-push_report_line-clause-gathers g c =
    let s = c.args.self.now in
    let named = c.action_name.ensures ∙ ap (λ (n : NamedSys). name_at n.environment.actions c.args.a) c.joint.ensures in
    let all = offer_line_is s.parts s.here c.args.a c.offers-mask.result c.action_name.result.now c.known.ensures.parts.system.few named c.requires.1 c.offers-mask.ensures in
    fill_stops _ _ _ _ _ _ _ _ _ _ c.from_residual.ensures.1 (fill_behind _ _ _ _ all) c.in_err-push_report_line.ensures.gathers

pub returns-clause-gathers : goal.returns-clause-gathers
returns-clause-gathers g c =
    let s = c.args.self.now in
    let named = c.action_name.ensures ∙ ap (λ (n : NamedSys). name_at n.environment.actions c.args.a) c.joint.ensures in
    let all = offer_line_is s.parts s.here c.args.a c.offers-mask.result c.action_name.result.now c.known.ensures.parts.system.few named c.requires.1 c.offers-mask.ensures in
    fill_last _ _ _ _ _ _ _ _ (fill_more _ _ _ _ _ _ _ _ (fill_behind _ _ _ _ all) c.in_ok-push_report_line.ensures.gathers) c.push_served.ensures.gathers
