use Rattle.roman_session.proofs.Common.{fill_stops, ◌<◌, ◌≤◌, sym, arith, fill_behind, fill_same, fill_more, fill_last}
use Rattle.roman_session.proofs.LineLemmas.{next_offer, walk_next, walk_over, walk_end, offers_begin, no_offers}
use Rattle.roman_session.proofs.session.Session.push_offers.Goals as goal

pub returns-then-not-composes-clause-gathers : goal.returns-then-not-composes-clause-gathers
returns-then-not-composes-clause-gathers g c =
    let s = c.args.self.now in
    fill_last _ _ _ _ _ _ _ _ (fill_behind _ _ _ _ (no_offers s.parts s.here (sym c.if-not-composes.ensures))) c.push_report_line.ensures.gathers

pub loop-a-init : goal.loop-a-init
loop-a-init g c = grind (arith, fill_behind, offers_begin)

pub loop-a-preserved-then-not-allows : goal.loop-a-preserved-then-not-allows
loop-a-preserved-then-not-allows g c = grind (arith, fill_same, walk_over)

pub returns-in_err-push_offer-clause-gathers : goal.returns-in_err-push_offer-clause-gathers
returns-in_err-push_offer-clause-gathers g c =
    let s = c.args.self.now in
    let within : c.loop-a.a < s.parts.environment.env.actions = grind arith in
    let next = next_offer s.parts s.here c.loop-a.a within (sym c.if-not-allows.ensures) in
    fill_stops _ _ _ _ _ _ _ _ _ _ c.from_residual.ensures.1 (fill_same _ _ _ _ _ _ next c.loop-a.invariant.filling) c.in_err-push_offer.ensures.gathers

pub loop-a-preserved : goal.loop-a-preserved
loop-a-preserved g c = grind (arith, fill_more, fill_same, walk_next)

pub returns-clause-gathers : goal.returns-clause-gathers
returns-clause-gathers g c =
    let past : c.args.self.now.parts.environment.env.actions ≤ c.loop-a.a = grind arith in
    fill_last _ _ _ _ _ _ _ _ (fill_same _ _ _ _ _ _ (walk_end _ _ _ _ c.loop-a.a past) c.loop-a.invariant.filling) c.push_report_line-2.ensures.gathers
