use Rattle.roman_cost.proofs.Common.{[], codes, sym, ◌∙◌, subst, err_from_is_err_and, IsIn, system_of, fill_more, fill_failed, fill_put}
use Rattle.roman_cost.proofs.Ranks.{in_related}
use Rattle.roman_cost.proofs.Lines.{advice_begins}
use Rattle.roman_cost.proofs.writing.put_advice.Goals as goal

pub value-worst-requires-clause-related : goal.value-worst-requires-clause-related
value-worst-requires-clause-related g c =
    let s = system_of c.args.relation.now.joint in
    subst (IsIn c.args.start) (sym c.requires.known.advises.pairs) (in_related s c.args.start c.requires.known.pair c.requires.known.related)

pub returns-in_err-push-clause-puts : goal.returns-in_err-push-clause-puts
returns-in_err-push-clause-puts g c =
    let begun = advice_begins c.args.relation.now.joint c.args.costs.now.listed c.args.advice.now.requests _ c.args.start _ _ _ _ c.new-page.ensures.empty (c.value-worst.ensures _ _ c.requires.known.advises) c.requests.ensures (c.bytes.ensures ∙ c.worst_piece.ensures) in
    let p = err_from_is_err_and c.from_residual.result c.from_residual.ensures.1 in
    rw p.1 (fill_failed _ _ _ _ _ _ _ begun c.in_err-push.ensures.gathers.0)

pub returns-in_err-push_choices-clause-puts : goal.returns-in_err-push_choices-clause-puts
returns-in_err-push_choices-clause-puts g c =
    let begun = advice_begins c.args.relation.now.joint c.args.costs.now.listed c.args.advice.now.requests _ c.args.start _ _ _ _ c.new-page.ensures.empty (c.value-worst.ensures _ _ c.requires.known.advises) c.requests.ensures (c.bytes.ensures ∙ c.worst_piece.ensures) in
    let first = fill_more _ _ _ _ _ _ _ _ begun c.in_ok-push.ensures.gathers in
    let p = err_from_is_err_and c.from_residual-in_err-push_choices.result c.from_residual-in_err-push_choices.ensures.1 in
    rw p.1 (fill_failed _ _ _ _ _ _ _ first c.in_err-push_choices.ensures.gathers.0)

pub returns-in_err-push_values-clause-puts : goal.returns-in_err-push_values-clause-puts
returns-in_err-push_values-clause-puts g c =
    let begun = advice_begins c.args.relation.now.joint c.args.costs.now.listed c.args.advice.now.requests _ c.args.start _ _ _ _ c.new-page.ensures.empty (c.value-worst.ensures _ _ c.requires.known.advises) c.requests.ensures (c.bytes.ensures ∙ c.worst_piece.ensures) in
    let first = fill_more _ _ _ _ _ _ _ _ begun c.in_ok-push.ensures.gathers in
    let second = fill_more _ _ _ _ _ _ _ _ first c.in_ok-push_choices.ensures.gathers in
    let p = err_from_is_err_and c.from_residual-in_err-push_values.result c.from_residual-in_err-push_values.ensures.1 in
    rw p.1 (fill_failed _ _ _ _ _ _ _ second (c.in_err-push_values.ensures.gathers _ _ c.requires.known.advises).0)

pub returns-in_err-push-2-clause-puts : goal.returns-in_err-push-2-clause-puts
returns-in_err-push-2-clause-puts g c =
    let begun = advice_begins c.args.relation.now.joint c.args.costs.now.listed c.args.advice.now.requests _ c.args.start _ _ _ _ c.new-page.ensures.empty (c.value-worst.ensures _ _ c.requires.known.advises) c.requests.ensures (c.bytes.ensures ∙ c.worst_piece.ensures) in
    let first = fill_more _ _ _ _ _ _ _ _ begun c.in_ok-push.ensures.gathers in
    let second = fill_more _ _ _ _ _ _ _ _ first c.in_ok-push_choices.ensures.gathers in
    let third = fill_more _ _ _ _ _ _ _ _ second (c.in_ok-push_values.ensures.gathers _ _ c.requires.known.advises) in
    let p = err_from_is_err_and c.from_residual-in_err-push-2.result c.from_residual-in_err-push-2.ensures.1 in
    rw p.1 (fill_failed _ _ _ _ (codes "end\n") [] _ third c.in_err-push-2.ensures.gathers.0)

pub returns-clause-puts : goal.returns-clause-puts
returns-clause-puts g c =
    let begun = advice_begins c.args.relation.now.joint c.args.costs.now.listed c.args.advice.now.requests _ c.args.start _ _ _ _ c.new-page.ensures.empty (c.value-worst.ensures _ _ c.requires.known.advises) c.requests.ensures (c.bytes.ensures ∙ c.worst_piece.ensures) in
    let first = fill_more _ _ _ _ _ _ _ _ begun c.in_ok-push.ensures.gathers in
    let second = fill_more _ _ _ _ _ _ _ _ first c.in_ok-push_choices.ensures.gathers in
    let third = fill_more _ _ _ _ _ _ _ _ second (c.in_ok-push_values.ensures.gathers _ _ c.requires.known.advises) in
    fill_put _ _ _ _ _ c.flush.result (fill_more _ _ _ _ _ (codes "end\n") [] _ third c.in_ok-push-2.ensures.gathers) c.flush.ensures.puts
