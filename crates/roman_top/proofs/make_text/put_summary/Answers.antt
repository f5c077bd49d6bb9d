use Rattle.roman_top.proofs.Common.{◌∙◌, err_from_is_err_and, fill_whole, fill_more, fill_failed, fill_put}
use Rattle.roman_top.proofs.MakeStageLemmas.{summary_pieces}
use Rattle.roman_top.proofs.make_text.put_summary.Goals as goal

pub returns-in_err-push-clause-puts : goal.returns-in_err-push-clause-puts
returns-in_err-push-clause-puts g c =
    let e = summary_pieces c.args.n c.args.stages.now _ (c.bytes.ensures ∙ c.made_piece.ensures) in
    let p = err_from_is_err_and c.from_residual.result c.from_residual.ensures.1 in
    rw p.1 (fill_failed _ _ _ _ _ _ _ (fill_whole _ _ _ _ c.new-page.ensures.empty e) c.in_err-push.ensures.gathers.0)

pub returns-in_err-push_stages-clause-puts : goal.returns-in_err-push_stages-clause-puts
returns-in_err-push_stages-clause-puts g c =
    let e = summary_pieces c.args.n c.args.stages.now _ (c.bytes.ensures ∙ c.made_piece.ensures) in
    let first = fill_more _ _ _ _ _ _ _ _ (fill_whole _ _ _ _ c.new-page.ensures.empty e) c.in_ok-push.ensures.gathers in
    let p = err_from_is_err_and c.from_residual-in_err-push_stages.result c.from_residual-in_err-push_stages.ensures.1 in
    rw p.1 (fill_failed _ _ _ _ _ _ _ first c.in_err-push_stages.ensures.gathers.0)

pub returns-clause-puts : goal.returns-clause-puts
returns-clause-puts g c =
    let e = summary_pieces c.args.n c.args.stages.now _ (c.bytes.ensures ∙ c.made_piece.ensures) in
    let first = fill_more _ _ _ _ _ _ _ _ (fill_whole _ _ _ _ c.new-page.ensures.empty e) c.in_ok-push.ensures.gathers in
    let second = fill_more _ _ _ _ _ _ _ _ first c.in_ok-push_stages.ensures.gathers in
    fill_put _ _ _ _ _ c.flush.result second c.flush.ensures.puts
