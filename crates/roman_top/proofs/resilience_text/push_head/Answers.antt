use Rattle.roman_top.proofs.Common.{fill_stops, ℕ, ◌++◌, codes, decimal, refl, ap, ◌∙◌, sizes_of, pair_at, outlook, system_of, fill_behind, fill_more, fill_last, outlook_words}
use Rattle.roman_top.proofs.ResilienceTextLemmas.{head_pieces}
use Rattle.roman_top.proofs.resilience_text.push_head.Goals as goal

pub returns-in_err-push-clause-gathers : goal.returns-in_err-push-clause-gathers
returns-in_err-push-clause-gathers g c =
    let n = c.args.base.now.joint in
    let now = outlook (system_of n) (pair_at (sizes_of (system_of n)) c.args.p) in
    let first = c.bytes.ensures ∙ (c.services_piece-services.ensures ∙ ap (λ (m : ℕ). codes "services " ++ decimal m ++ codes "\nstart") c.seats.ensures.count) in
    let e = head_pieces n now c.bytes.result.now (outlook_words now) first refl in
    fill_stops _ _ _ _ _ _ _ _ _ _ c.from_residual.ensures.1 (fill_behind _ _ _ _ e) c.in_err-push.ensures.gathers

pub returns-clause-gathers : goal.returns-clause-gathers
returns-clause-gathers g c =
    let n = c.args.base.now.joint in
    let now = outlook (system_of n) (pair_at (sizes_of (system_of n)) c.args.p) in
    let first = c.bytes.ensures ∙ (c.services_piece-services.ensures ∙ ap (λ (m : ℕ). codes "services " ++ decimal m ++ codes "\nstart") c.seats.ensures.count) in
    let words = c.bytes-2.ensures ∙ (c.outlook_piece.ensures ∙ ap outlook_words c.now.ensures.outlook) in
    let e = head_pieces n now c.bytes.result.now c.bytes-2.result.now first words in
    fill_last _ _ _ _ _ _ _ c.push-2.result (fill_more _ _ _ _ _ _ _ _ (fill_behind _ _ _ _ e) c.in_ok-push.ensures.gathers) c.push-2.ensures.gathers
