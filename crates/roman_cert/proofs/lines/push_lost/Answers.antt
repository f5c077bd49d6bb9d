use Rattle.roman_cert.proofs.Common.{append-nil, arith, sym, ◌∙◌, ◌∷◌, as_entry, err_from_is_err_and, fill_behind, fill_failed, fill_last, fill_more, fill_same}
use Rattle.roman_cert.proofs.Rests.{fill_next, fill_stops, fill_ends}
use Rattle.roman_cert.proofs.LineTexts.{lost_begins, lost_state, all_states}
use Rattle.roman_cert.proofs.lines.push_lost.Goals as goal

pub returns-in_err-push-clause-gathers : goal.returns-in_err-push-clause-gathers
returns-in_err-push-clause-gathers g c =
    let begins = lost_begins c.args.joint.now (as_entry (c.args.p, c.args.reason)) c.bytes.result.now (c.bytes.ensures ∙ c.pair_piece-pair.ensures) in
    let p = err_from_is_err_and c.from_residual.result c.from_residual.ensures.1 in
    rw p.1 (fill_failed _ _ _ _ _ _ _ (fill_behind _ _ _ _ begins) c.in_err-push.ensures.gathers.0, c.in_err-push.ensures.gathers.1)

pub loop-k-init : goal.loop-k-init
loop-k-init g c =
    let begins = lost_begins c.args.joint.now (as_entry (c.args.p, c.args.reason)) c.bytes.result.now (c.bytes.ensures ∙ c.pair_piece-pair.ensures) in
    record { filling = fill_more _ _ _ _ _ _ _ _ (fill_behind _ _ _ _ begins) c.in_ok-push.ensures.gathers; cause = c.in_ok-push.ensures.cause.stays }

pub returns-in_err-push-2-clause-gathers : goal.returns-in_err-push-2-clause-gathers
returns-in_err-push-2-clause-gathers g c =
    let state = lost_state c.args.joint.now (as_entry (c.args.p, c.args.reason)) c.loop-k.k (omega (arith, c.seats-k-end.ensures.count)) in
    let said = c.bytes-in-loop-k.ensures ∙ c.state_piece-state.ensures in
    let p = err_from_is_err_and c.from_residual-in_err-push-2.result c.from_residual-in_err-push-2.ensures.1 in
    rw p.1 (fill_stops (λ name. 32 ∷ name) _ _ _ _ state _ _ _ _ _ said c.loop-k.invariant.filling _ c.in_err-push-2.ensures.gathers.0, c.in_err-push-2.ensures.gathers.1)

pub loop-k-preserved : goal.loop-k-preserved
loop-k-preserved g c =
    let state = lost_state c.args.joint.now (as_entry (c.args.p, c.args.reason)) c.loop-k.k (omega (arith, c.seats-k-end.ensures.count)) in
    let said = c.bytes-in-loop-k.ensures ∙ c.state_piece-state.ensures in
    record {
      filling = fill_next (λ name. 32 ∷ name) _ _ _ _ state _ _ _ _ _ said c.loop-k.invariant.filling _ _ c.in_ok-push-2.ensures.gathers;
      cause = c.in_ok-push-2.ensures.cause.stays ∙ c.loop-k.invariant.cause;
    }

pub returns-clause-gathers : goal.returns-clause-gathers
returns-clause-gathers g c =
    let all = all_states c.args.joint.now (as_entry (c.args.p, c.args.reason)) c.loop-k.k (omega (arith, c.seats-k-end.ensures.count)) in
    fill_last _ _ _ _ _ _ _ _ (fill_same _ _ _ _ _ _ (sym (c.bytes-2.ensures ∙ c.reason_piece-why.ensures) ∙ sym (append-nil _)) (fill_ends (λ name. 32 ∷ name) _ _ _ _ _ _ _ all c.loop-k.invariant.filling)) c.push-2.ensures.gathers
