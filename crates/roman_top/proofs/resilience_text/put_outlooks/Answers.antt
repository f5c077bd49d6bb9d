use Rattle.roman_top.proofs.Common.{err_from_is_err_and, fill_more, fill_failed, fill_put}
use Rattle.roman_top.proofs.ResilienceTextLemmas.{text_begun}
use Rattle.roman_top.proofs.resilience_text.put_outlooks.Goals as goal

pub returns-in_err-push_head-clause-puts : goal.returns-in_err-push_head-clause-puts
returns-in_err-push_head-clause-puts g c =
    let p = err_from_is_err_and c.from_residual.result c.from_residual.ensures.1 in
    rw p.1 (fill_failed _ _ _ _ _ _ _ (text_begun c.args.base.now.joint c.args.losses.now.pair _ _ c.new-page.ensures.empty) c.in_err-push_head.ensures.gathers.0)

pub returns-in_err-push_ones-clause-puts : goal.returns-in_err-push_ones-clause-puts
returns-in_err-push_ones-clause-puts g c =
    let first = fill_more _ _ _ _ _ _ _ _ (text_begun c.args.base.now.joint c.args.losses.now.pair _ _ c.new-page.ensures.empty) c.in_ok-push_head.ensures.gathers in
    let p = err_from_is_err_and c.from_residual-in_err-push_ones.result c.from_residual-in_err-push_ones.ensures.1 in
    rw p.1 (fill_failed _ _ _ _ _ _ _ first c.in_err-push_ones.ensures.gathers.0)

pub returns-in_err-push_twos-clause-puts : goal.returns-in_err-push_twos-clause-puts
returns-in_err-push_twos-clause-puts g c =
    let first = fill_more _ _ _ _ _ _ _ _ (text_begun c.args.base.now.joint c.args.losses.now.pair _ _ c.new-page.ensures.empty) c.in_ok-push_head.ensures.gathers in
    let second = fill_more _ _ _ _ _ _ _ _ first c.in_ok-push_ones.ensures.gathers in
    let p = err_from_is_err_and c.from_residual-in_err-push_twos.result c.from_residual-in_err-push_twos.ensures.1 in
    rw p.1 (fill_failed _ _ _ _ _ _ _ second c.in_err-push_twos.ensures.gathers.0)

pub returns-in_err-push-clause-puts : goal.returns-in_err-push-clause-puts
returns-in_err-push-clause-puts g c =
    let first = fill_more _ _ _ _ _ _ _ _ (text_begun c.args.base.now.joint c.args.losses.now.pair _ _ c.new-page.ensures.empty) c.in_ok-push_head.ensures.gathers in
    let second = fill_more _ _ _ _ _ _ _ _ first c.in_ok-push_ones.ensures.gathers in
    let third = fill_more _ _ _ _ _ _ _ _ second c.in_ok-push_twos.ensures.gathers in
    let p = err_from_is_err_and c.from_residual-in_err-push.result c.from_residual-in_err-push.ensures.1 in
    rw p.1 (fill_failed _ _ _ _ _ _ _ third c.in_err-push.ensures.gathers.0)

pub returns-clause-puts : goal.returns-clause-puts
returns-clause-puts g c =
    let first = fill_more _ _ _ _ _ _ _ _ (text_begun c.args.base.now.joint c.args.losses.now.pair _ _ c.new-page.ensures.empty) c.in_ok-push_head.ensures.gathers in
    let second = fill_more _ _ _ _ _ _ _ _ first c.in_ok-push_ones.ensures.gathers in
    let third = fill_more _ _ _ _ _ _ _ _ second c.in_ok-push_twos.ensures.gathers in
    let fourth = fill_more _ _ _ _ _ _ _ _ third c.in_ok-push.ensures.gathers in
    fill_put _ _ _ _ _ c.flush.result fourth c.flush.ensures.puts
