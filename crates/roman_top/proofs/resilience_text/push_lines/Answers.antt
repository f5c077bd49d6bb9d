use Rattle.roman_top.proofs.Common.{fill_stops, refl, sizes_of, pair_at, outlook, system_without, pair_without, system_of, fill_behind, fill_more, fill_last, failing_places, told}
use Rattle.roman_model.specs.declared.way.Way.TheVariants.{Die}
use Rattle.roman_top.proofs.ResilienceTextLemmas.{both_lines}
use Rattle.roman_top.proofs.resilience_text.push_lines.Goals as goal

pub returns-in_err-push_line-clause-gathers : goal.returns-in_err-push_line-clause-gathers
returns-in_err-push_line-clause-gathers g c =
    let n = c.args.joint.now in
    let p = pair_at (sizes_of (system_of n)) c.args.losses.now.pair in
    let K = failing_places c.args.first c.args.second in
    let e = both_lines n p K (told c.left-frozen.result) (outlook (system_without Die K (system_of n)) (pair_without Die K p)) (c.left-frozen.ensures n c.requires.losses c.requires.places) refl in
    fill_stops _ _ _ _ _ _ _ _ _ _ c.from_residual.ensures.1 (fill_behind _ _ _ _ e) c.in_err-push_line.ensures.gathers

pub returns-clause-gathers : goal.returns-clause-gathers
returns-clause-gathers g c =
    let n = c.args.joint.now in
    let p = pair_at (sizes_of (system_of n)) c.args.losses.now.pair in
    let K = failing_places c.args.first c.args.second in
    let e = both_lines n p K (told c.left-frozen.result) (told c.left-gone.result) (c.left-frozen.ensures n c.requires.losses c.requires.places) (c.left-gone.ensures n c.requires.losses c.requires.places) in
    fill_last _ _ _ _ _ _ _ c.push_line-2.result (fill_more _ _ _ _ _ _ _ _ (fill_behind _ _ _ _ e) c.in_ok-push_line.ensures.gathers) c.push_line-2.ensures.gathers
