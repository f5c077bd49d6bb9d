use Rattle.roman_cost.proofs.Common.{◌∙◌, err_from_is_err_and, fill_more, fill_failed}
use Rattle.roman_cost.proofs.Lines.{value_taken}
use Rattle.roman_cost.proofs.writing.push_values_for.Goals as goal

pub returns-in_err-push_value-clause-gathers : goal.returns-in_err-push_value-clause-gathers
returns-in_err-push_value-clause-gathers g c = λ s C says.
    let next = value_taken _ _ _ _ s C _ _ _ _ _ _ c.pairs-p-items.ensures c.loop-i-test.true (c.least_costs-values.ensures.values s C says) (c.bytes.ensures ∙ c.head_piece-head.ensures) (c.loop-i.invariant.filling s C says) in
    let p = err_from_is_err_and c.from_residual.result c.from_residual.ensures.1 in
    rw p.1 (fill_failed _ _ _ _ _ _ _ next c.in_err-push_value.ensures.gathers.0, c.in_err-push_value.ensures.gathers.1)

pub loop-i-preserved : goal.loop-i-preserved
loop-i-preserved g c = record {
  filling = λ s C says.
      let next = value_taken _ _ _ _ s C _ _ _ _ _ _ c.pairs-p-items.ensures c.loop-i-test.true (c.least_costs-values.ensures.values s C says) (c.bytes.ensures ∙ c.head_piece-head.ensures) (c.loop-i.invariant.filling s C says) in
      fill_more _ _ _ _ _ _ _ _ next c.in_ok-push_value.ensures.gathers;
  cause = c.in_ok-push_value.ensures.cause.stays ∙ c.loop-i.invariant.cause;
}
