use Rattle.roman_opening.proofs.Common.{◌≡◌, ℕ, List, [], ◌++◌, codes, refl, ◌∙◌, append_assoc, append-nil, err_from_is_err_and, fill_whole, fill_more, fill_failed, fill_put, Refusal, refusal_line, rule_text}
use Rattle.roman_opening.proofs.refusals.put_refusal.Goals as goal

regroup : (a b c : List ℕ) → a ++ (b ++ (c ++ [])) ≡ a ++ b ++ c
regroup a b c = simp (append_assoc, append-nil)

-- the pieces of the line
refusal_pieces : (r : Refusal) (document rule : List ℕ) → document ≡ r.document → rule ≡ rule_text r → codes "refused " ++ (document ++ (rule ++ [])) ≡ refusal_line r
refusal_pieces r document rule is_document is_rule = rw (is_document, is_rule) (regroup (codes "refused ") r.document (rule_text r))

pub returns-in_err-push-clause-puts : goal.returns-in_err-push-clause-puts
returns-in_err-push-clause-puts g c =
    let e = refusal_pieces c.args.refusal.now _ _ refl refl in
    let p = err_from_is_err_and c.from_residual.result c.from_residual.ensures.1 in
    rw p.1 (fill_failed _ _ _ _ _ _ _ (fill_whole _ _ _ _ c.new-page.ensures.empty e) c.in_err-push.ensures.gathers.0)

pub returns-in_err-push-2-clause-puts : goal.returns-in_err-push-2-clause-puts
returns-in_err-push-2-clause-puts g c =
    let e = refusal_pieces c.args.refusal.now _ _ c.bytes.ensures.bytes refl in
    let first = fill_more _ _ _ _ _ _ _ _ (fill_whole _ _ _ _ c.new-page.ensures.empty e) c.in_ok-push.ensures.gathers in
    let p = err_from_is_err_and c.from_residual-in_err-push-2.result c.from_residual-in_err-push-2.ensures.1 in
    rw p.1 (fill_failed _ _ _ _ _ _ _ first c.in_err-push-2.ensures.gathers.0)

pub returns-in_err-push-3-clause-puts : goal.returns-in_err-push-3-clause-puts
returns-in_err-push-3-clause-puts g c =
    let e = refusal_pieces c.args.refusal.now _ _ c.bytes.ensures.bytes (c.bytes-2.ensures ∙ c.rule_piece.ensures) in
    let first = fill_more _ _ _ _ _ _ _ _ (fill_whole _ _ _ _ c.new-page.ensures.empty e) c.in_ok-push.ensures.gathers in
    let second = fill_more _ _ _ _ _ _ _ _ first c.in_ok-push-2.ensures.gathers in
    let p = err_from_is_err_and c.from_residual-in_err-push-3.result c.from_residual-in_err-push-3.ensures.1 in
    rw p.1 (fill_failed _ _ _ _ _ _ _ second c.in_err-push-3.ensures.gathers.0)

pub returns-clause-puts : goal.returns-clause-puts
returns-clause-puts g c =
    let e = refusal_pieces c.args.refusal.now _ _ c.bytes.ensures.bytes (c.bytes-2.ensures ∙ c.rule_piece.ensures) in
    let first = fill_more _ _ _ _ _ _ _ _ (fill_whole _ _ _ _ c.new-page.ensures.empty e) c.in_ok-push.ensures.gathers in
    let second = fill_more _ _ _ _ _ _ _ _ first c.in_ok-push-2.ensures.gathers in
    let third = fill_more _ _ _ _ _ _ _ _ second c.in_ok-push-3.ensures.gathers in
    fill_put _ _ _ _ _ c.flush.result third c.flush.ensures.puts
