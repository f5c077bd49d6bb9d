use Rattle.roman_session.proofs.Common.{fill_stops, ◌≡◌, ◌<◌, ◌≤◌, Some, length, slice_get, sym, ◌∙◌, arith, fill_behind, fill_same, fill_more, fill_last}
use Rattle.roman_session.proofs.LineLemmas.{next_served, walk_over, walk_end, served_begin}
use Rattle.roman_session.proofs.session.Session.push_served.Goals as goal

pub loop-k-init : goal.loop-k-init
loop-k-init g c = grind (arith, fill_behind, served_begin)

pub loop-k-preserved-then-not-has : goal.loop-k-preserved-then-not-has
loop-k-preserved-then-not-has g c = grind (arith, fill_same, walk_over)

pub returns-in_err-push_name-clause-gathers : goal.returns-in_err-push_name-clause-gathers
returns-in_err-push_name-clause-gathers g c =
    let parts = c.args.self.now.parts in
    let within : c.loop-k.k < length parts.seats = grind arith in
    let seated : slice_get parts.seats c.loop-k.k ≡ Some c.seat.result.now = cc in
    let next = next_served parts c.args.mask c.loop-k.k c.seat.result.now within (sym c.has.ensures ∙ c.if-not-has.false) seated in
    fill_stops _ _ _ _ _ _ _ _ _ _ c.from_residual.ensures.1 (fill_same _ _ _ _ _ _ next c.loop-k.invariant.filling) c.in_err-push_name.ensures.gathers

pub loop-k-preserved : goal.loop-k-preserved
loop-k-preserved g c =
    let parts = c.args.self.now.parts in
    let within : c.loop-k.k < length parts.seats = grind arith in
    let seated : slice_get parts.seats c.loop-k.k ≡ Some c.seat.result.now = cc in
    let next = next_served parts c.args.mask c.loop-k.k c.seat.result.now within (sym c.has.ensures ∙ c.if-not-has.false) seated in
    record {
      filling = fill_more _ _ _ _ _ _ _ _ (fill_same _ _ _ _ _ _ next c.loop-k.invariant.filling) c.in_ok-push_name.ensures.gathers;
      cause = c.in_ok-push_name.ensures.cause.stays ∙ c.loop-k.invariant.cause;
    }

pub returns-clause-gathers : goal.returns-clause-gathers
returns-clause-gathers g c =
    let past : length c.args.self.now.parts.seats ≤ c.loop-k.k = grind arith in
    fill_last _ _ _ _ _ _ _ _ (fill_same _ _ _ _ _ _ (walk_end _ _ _ _ c.loop-k.k past) c.loop-k.invariant.filling) c.push.ensures.gathers
