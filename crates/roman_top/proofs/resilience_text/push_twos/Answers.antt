use Rattle.roman_top.proofs.Common.{fill_stops, ℕ, ◌+◌, ◌<◌, List, [], ◌∷◌, map, length, drop, arith, below, sizes_of, pair_at, system_of, fill_same, fill_more, fill_end, lines_without}
use Rattle.roman_top.proofs.ResilienceTextLemmas.{all_next, all_end}
use Rattle.roman_top.proofs.resilience_text.push_twos.Goals as goal

pub returns-in_err-push_twos_with-clause-gathers : goal.returns-in_err-push_twos_with-clause-gathers
returns-in_err-push_twos_with-clause-gathers g c =
    let n = c.args.joint.now in
    let with : ℕ → List (List ℕ) = λ k. map (λ (j : ℕ). k ∷ j ∷ []) (drop (k + 1) (below (length n.seats))) in
    let within : c.loop-k.k < length n.seats = omega (arith, c.seats-k-end.ensures.count) in
    let next = all_next with (lines_without n (pair_at (sizes_of (system_of n)) c.args.losses.now.pair)) (length n.seats) c.loop-k.k within in
    fill_stops _ _ _ _ _ _ _ _ _ _ c.from_residual.ensures.1 (fill_same _ _ _ _ _ _ next c.loop-k.invariant.filling) c.in_err-push_twos_with.ensures.gathers

pub loop-k-preserved : goal.loop-k-preserved
loop-k-preserved g c = grind (arith, all_next, fill_more, fill_same)

pub returns-clause-gathers : goal.returns-clause-gathers
returns-clause-gathers g c = grind (arith, all_end, fill_end, fill_same)
