use Rattle.roman_cert.proofs.Common.{arith, refl, sym, ◌∙◌, as_entry, err_from_is_err_and, fill_whole}
use Rattle.roman_cert.proofs.Rests.{rest_of, fill_next, fill_stops, fill_skips, fill_ends, fill_written}
use Rattle.roman_cert.proofs.SliceTexts.{marked_said, unmarked_said}
use Rattle.roman_cert.proofs.slice.write_marked.Goals as goal

pub loop-i-init : goal.loop-i-init
unfolding rest_of
loop-i-init g c = record { filling = fill_whole _ _ _ _ c.new-page.ensures.empty refl; ahead = c.nothing-ahead.ensures c.args.order.now 0; cause = refl }

pub loop-i-preserved-then-not-marked : goal.loop-i-preserved-then-not-marked
loop-i-preserved-then-not-marked g c =
    let none = unmarked_said c.args.joint.now c.args.order.now (as_entry c.read_on-p.result) (sym c.marked.ensures ∙ c.if-not-marked.true) in
    record { filling = fill_skips _ _ _ _ _ c.read_on-p.ensures.entry _ _ _ _ none c.loop-i.invariant.filling; ahead = c.read_on-p.ensures.ahead; cause = c.loop-i.invariant.cause }

pub returns-in_err-push_entry-clause-text : goal.returns-in_err-push_entry-clause-text
returns-in_err-push_entry-clause-text g c =
    let said = marked_said c.args.joint.now c.args.order.now (as_entry c.read_on-p.result) (sym c.marked.ensures ∙ c.if-not-marked.false) in
    let p = err_from_is_err_and c.from_residual.result c.from_residual.ensures.1 in
    rw p.1 (fill_stops _ _ _ _ _ c.read_on-p.ensures.entry _ _ _ _ _ said c.loop-i.invariant.filling _ c.in_err-push_entry.ensures.gathers.0)

pub loop-i-preserved : goal.loop-i-preserved
loop-i-preserved g c =
    let said = marked_said c.args.joint.now c.args.order.now (as_entry c.read_on-p.result) (sym c.marked.ensures ∙ c.if-not-marked.false) in
    record {
      filling = fill_next _ _ _ _ _ c.read_on-p.ensures.entry _ _ _ _ _ said c.loop-i.invariant.filling _ _ c.in_ok-push_entry.ensures.gathers;
      ahead = c.read_on-p.ensures.ahead;
      cause = c.in_ok-push_entry.ensures.cause.stays ∙ c.loop-i.invariant.cause;
    }

pub returns-clause-text : goal.returns-clause-text
returns-clause-text g c =
    fill_written _ _ _ _ _ _ _ (fill_ends _ _ _ _ _ _ _ _ (omega (arith, c.len-i-end.ensures.value)) c.loop-i.invariant.filling) c.finish.ensures.text
