use Rattle.roman_cert.proofs.Common.{arith, refl, ◌∙◌, err_from_is_err_and, fill_failed, fill_more, fill_whole}
use Rattle.roman_cert.proofs.Rests.{fill_next, fill_stops, fill_ends, fill_written}
use Rattle.roman_cert.proofs.Certificates.{line_of, cert_begins}
use Rattle.roman_cert.proofs.certificate.write_list.Goals as goal

pub returns-in_err-push-clause-text : goal.returns-in_err-push-clause-text
returns-in_err-push-clause-text g c =
    let begins = cert_begins c.args.pairs c.args.order.now.list c.bytes.result.now (c.bytes.ensures ∙ c.head_piece-head.ensures) in
    let p = err_from_is_err_and c.from_residual.result c.from_residual.ensures.1 in
    rw p.1 (fill_failed _ _ _ _ c.bytes.result.now _ _ (fill_whole _ _ _ _ c.new-page.ensures.empty begins) c.in_err-push.ensures.gathers.0)

pub loop-i-init : goal.loop-i-init
loop-i-init g c =
    let begins = cert_begins c.args.pairs c.args.order.now.list c.bytes.result.now (c.bytes.ensures ∙ c.head_piece-head.ensures) in
    record {
      filling = fill_more _ _ _ _ _ c.bytes.result.now _ _ (fill_whole _ _ _ _ c.new-page.ensures.empty begins) c.in_ok-push.ensures.gathers;
      template = c.new-template.ensures;
      ahead = c.nothing-ahead.ensures c.args.order.now 0;
      cause = c.in_ok-push.ensures.cause.stays;
    }

pub returns-in_err-push_entry-clause-text : goal.returns-in_err-push_entry-clause-text
returns-in_err-push_entry-clause-text g c =
    let p = err_from_is_err_and c.from_residual-in_err-push_entry.result c.from_residual-in_err-push_entry.ensures.1 in
    rw p.1 (fill_stops line_of _ _ _ _ c.read_on-pair.ensures.entry _ _ _ _ _ refl c.loop-i.invariant.filling _ c.in_err-push_entry.ensures.gathers.0)

pub loop-i-preserved : goal.loop-i-preserved
loop-i-preserved g c = record {
  filling = fill_next line_of _ _ _ _ c.read_on-pair.ensures.entry _ _ _ _ _ refl c.loop-i.invariant.filling _ _ c.in_ok-push_entry.ensures.gathers;
  template = c.in_ok-push_entry.ensures.template;
  ahead = c.read_on-pair.ensures.ahead;
  cause = c.in_ok-push_entry.ensures.cause.stays ∙ c.loop-i.invariant.cause;
}

pub returns-clause-text : goal.returns-clause-text
returns-clause-text g c =
    fill_written _ _ _ _ _ _ _ (fill_ends line_of _ _ _ _ _ _ _ (omega (arith, c.len-i-end.ensures.value)) c.loop-i.invariant.filling) c.finish.ensures.text
