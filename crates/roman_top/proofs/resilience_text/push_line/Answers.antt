use Rattle.roman_top.proofs.Common.{fill_stops, ℕ, List, ◌++◌, refl, ap₂, ◌∙◌, fill_behind, fill_more, fill_last, failing_places, told, outlook_words}
use Rattle.roman_top.proofs.ResilienceTextLemmas.{line_pieces}
use Rattle.roman_top.proofs.resilience_text.push_line.Goals as goal

pub returns-in_err-push-clause-gathers : goal.returns-in_err-push-clause-gathers
returns-in_err-push-clause-gathers g c =
    let prefix = c.bytes.ensures ∙ (c.text-prefix.ensures.text ∙ ap₂ (λ (x y : List ℕ). x ++ y) c.names_piece.ensures.text c.way_word.ensures.word) in
    let e = line_pieces c.args.joint.now (failing_places c.args.first c.args.second) c.args.way (told c.args.left.now) c.bytes.result.now (outlook_words (told c.args.left.now)) prefix refl in
    fill_stops _ _ _ _ _ _ _ _ _ _ c.from_residual.ensures.1 (fill_behind _ _ _ _ e) c.in_err-push.ensures.gathers

pub returns-clause-gathers : goal.returns-clause-gathers
returns-clause-gathers g c =
    let prefix = c.bytes.ensures ∙ (c.text-prefix.ensures.text ∙ ap₂ (λ (x y : List ℕ). x ++ y) c.names_piece.ensures.text c.way_word.ensures.word) in
    let e = line_pieces c.args.joint.now (failing_places c.args.first c.args.second) c.args.way (told c.args.left.now) c.bytes.result.now c.bytes-2.result.now prefix (c.bytes-2.ensures ∙ c.outlook_piece.ensures) in
    fill_last _ _ _ _ _ _ _ c.push-2.result (fill_more _ _ _ _ _ _ _ _ (fill_behind _ _ _ _ e) c.in_ok-push.ensures.gathers) c.push-2.ensures.gathers
