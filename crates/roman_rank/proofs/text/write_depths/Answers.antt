use Rattle.roman_rank.proofs.Common.{[], ◌∙◌, err_from_is_err_and, fill_more, fill_failed, level_lines, fill_whole, fill_put}
use Rattle.roman_rank.proofs.Telling.{whole_pieces, told_puts}
use Rattle.roman_rank.proofs.text.write_depths.Goals as goal

pub returns-in_err-push-clause-tells : goal.returns-in_err-push-clause-tells
returns-in_err-push-clause-tells g c s are =
    let lines = level_lines 0 c.levels-levels.result.now in
    let whole = whole_pieces _ lines _ c.bytes.result.now c.last_piece-last.result (c.bytes.ensures ∙ c.head_piece-head.ensures) c.last_piece-last.ensures in
    let p = err_from_is_err_and c.from_residual.result c.from_residual.ensures.1 in
    told_puts s c.args.ranks.now c.levels-levels.result.now c.args.p _ _ c.depth.result _ _ _ are c.levels-levels.ensures c.requires c.pairs.ensures (c.related.ensures s are) c.depth.ensures.value
    (rw p.1 (fill_failed _ _ _ _ c.bytes.result.now _ _ (fill_whole _ _ _ _ c.new-page.ensures.empty whole) c.in_err-push.ensures.gathers.0))

pub returns-in_err-push_levels-clause-tells : goal.returns-in_err-push_levels-clause-tells
returns-in_err-push_levels-clause-tells g c s are =
    let lines = level_lines 0 c.levels-levels.result.now in
    let whole = whole_pieces _ lines _ c.bytes.result.now c.last_piece-last.result (c.bytes.ensures ∙ c.head_piece-head.ensures) c.last_piece-last.ensures in
    let begun = fill_more _ _ _ _ _ c.bytes.result.now _ _ (fill_whole _ _ _ _ c.new-page.ensures.empty whole) c.in_ok-push.ensures.gathers in
    let p = err_from_is_err_and c.from_residual-in_err-push_levels.result c.from_residual-in_err-push_levels.ensures.1 in
    told_puts s c.args.ranks.now c.levels-levels.result.now c.args.p _ _ c.depth.result _ _ _ are c.levels-levels.ensures c.requires c.pairs.ensures (c.related.ensures s are) c.depth.ensures.value
    (rw p.1 (fill_failed _ _ _ _ lines _ _ begun c.in_err-push_levels.ensures.gathers.0))

pub returns-in_err-push-2-clause-tells : goal.returns-in_err-push-2-clause-tells
returns-in_err-push-2-clause-tells g c s are =
    let lines = level_lines 0 c.levels-levels.result.now in
    let whole = whole_pieces _ lines _ c.bytes.result.now c.bytes-2.result.now (c.bytes.ensures ∙ c.head_piece-head.ensures) (c.bytes-2.ensures ∙ c.last_piece-last.ensures) in
    let begun = fill_more _ _ _ _ _ c.bytes.result.now _ _ (fill_whole _ _ _ _ c.new-page.ensures.empty whole) c.in_ok-push.ensures.gathers in
    let leveled = fill_more _ _ _ _ _ lines _ _ begun c.in_ok-push_levels.ensures.gathers in
    let p = err_from_is_err_and c.from_residual-in_err-push-2.result c.from_residual-in_err-push-2.ensures.1 in
    told_puts s c.args.ranks.now c.levels-levels.result.now c.args.p _ _ c.depth.result _ _ _ are c.levels-levels.ensures c.requires c.pairs.ensures (c.related.ensures s are) c.depth.ensures.value
    (rw p.1 (fill_failed _ _ _ _ c.bytes-2.result.now [] _ leveled c.in_err-push-2.ensures.gathers.0))

pub returns-clause-tells : goal.returns-clause-tells
returns-clause-tells g c s are =
    let lines = level_lines 0 c.levels-levels.result.now in
    let whole = whole_pieces _ lines _ c.bytes.result.now c.bytes-2.result.now (c.bytes.ensures ∙ c.head_piece-head.ensures) (c.bytes-2.ensures ∙ c.last_piece-last.ensures) in
    let begun = fill_more _ _ _ _ _ c.bytes.result.now _ _ (fill_whole _ _ _ _ c.new-page.ensures.empty whole) c.in_ok-push.ensures.gathers in
    let leveled = fill_more _ _ _ _ _ lines _ _ begun c.in_ok-push_levels.ensures.gathers in
    told_puts s c.args.ranks.now c.levels-levels.result.now c.args.p _ _ c.depth.result _ _ _ are c.levels-levels.ensures c.requires c.pairs.ensures (c.related.ensures s are) c.depth.ensures.value
    (fill_put _ _ _ _ _ _ (fill_more _ _ _ _ _ c.bytes-2.result.now [] _ leveled c.in_ok-push-2.ensures.gathers) c.flush.ensures.puts)
