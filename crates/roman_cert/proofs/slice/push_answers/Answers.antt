use Rattle.roman_cert.proofs.Common.{arith, refl, sym, ◌∙◌, err_from_is_err_and, fill_behind, fill_end, if_some, length-below}
use Rattle.roman_cert.proofs.Rests.{fill_next, fill_stops, fill_skips, fill_ends}
use Rattle.roman_cert.proofs.AnswerTexts.{answers_begin, all_seats, seat_in, seat_said, seat_frozen}
use Rattle.roman_cert.proofs.slice.push_answers.Goals as goal

pub loop-k-init : goal.loop-k-init
loop-k-init g c = record { filling = fill_behind _ _ _ _ (answers_begin c.args.joint.now c.args.order.now.list c.args.entry.pair c.args.a); cause = refl }

pub loop-k-preserved-then-not-is_ready : goal.loop-k-preserved-then-not-is_ready
loop-k-preserved-then-not-is_ready g c =
    let seat = seat_in c.args.joint.now c.loop-k.k (omega (arith, c.seats-k-end.ensures.count)) in
    let none = seat_frozen c.args.joint.now c.args.order.now.list c.args.entry.pair c.args.a c.loop-k.k (sym c.is_ready.ensures ∙ c.if-not-is_ready.true) in
    record { filling = fill_skips _ _ _ _ _ seat _ _ _ _ none c.loop-k.invariant.filling; cause = c.loop-k.invariant.cause }

pub answer_piece-line-requires-clause-pair : goal.answer_piece-line-requires-clause-pair
answer_piece-line-requires-clause-pair g c q e = grind (arith, if_some, length-below)

pub returns-in_err-push-clause-gathers : goal.returns-in_err-push-clause-gathers
returns-in_err-push-clause-gathers g c =
    let said = seat_said _ c.args.order.now c.args.entry.place _ _ _ c.answer-found.result _ c.known.ensures c.requires.order.0 c.known-2.ensures.in_range c.requires.entry (sym c.is_ready.ensures ∙ c.if-not-is_ready.false) c.answer-found.ensures.answer (c.bytes.ensures ∙ c.answer_piece-line.ensures) in
    let p = err_from_is_err_and c.from_residual.result c.from_residual.ensures.1 in
    rw p.1 (fill_stops _ _ _ _ _ (seat_in c.args.joint.now c.loop-k.k (omega (arith, c.seats-k-end.ensures.count))) _ _ _ _ _ said c.loop-k.invariant.filling _ c.in_err-push.ensures.gathers.0, c.in_err-push.ensures.gathers.1)

pub loop-k-preserved : goal.loop-k-preserved
loop-k-preserved g c =
    let said = seat_said _ c.args.order.now c.args.entry.place _ _ _ c.answer-found.result _ c.known.ensures c.requires.order.0 c.known-2.ensures.in_range c.requires.entry (sym c.is_ready.ensures ∙ c.if-not-is_ready.false) c.answer-found.ensures.answer (c.bytes.ensures ∙ c.answer_piece-line.ensures) in
    record {
      filling = fill_next _ _ _ _ _ (seat_in c.args.joint.now c.loop-k.k (omega (arith, c.seats-k-end.ensures.count))) _ _ _ _ _ said c.loop-k.invariant.filling _ _ c.in_ok-push.ensures.gathers;
      cause = c.in_ok-push.ensures.cause.stays ∙ c.loop-k.invariant.cause;
    }

pub returns-clause-gathers : goal.returns-clause-gathers
returns-clause-gathers g c =
    fill_end _ _ _ _ (fill_ends _ _ _ _ _ _ _ _ (all_seats c.args.joint.now c.loop-k.k (omega (arith, c.seats-k-end.ensures.count))) c.loop-k.invariant.filling)
