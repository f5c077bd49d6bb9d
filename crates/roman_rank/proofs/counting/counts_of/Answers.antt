use Rattle.roman_rank.proofs.Common.{◌≡◌, ◌+◌, ◌-◌, ◌^◌, ◌<◌, ℕ, length, take, get_or, refl, sym, subst, arith, AreCounts, Vec, Global}
use Rattle.roman_rank.proofs.Tallies.{counts_passed, counts_more}
use Rattle.roman_rank.proofs.counting.counts_of.Goals as goal
use Rattle.roman_rank.proofs.counting.counts_of.Goals.{then-depth+in_ok-count_one, else-depth}

pub loop-depth-preserved : goal.loop-depth-preserved
loop-depth-preserved c =
    let xs = c.args.depths.now in
    let i = c.loop-depth.depth-index in
    let l : i < length xs = omega (arith, c.loop-depth-test.true) in
    elim c.if-depth.branch [
      | then-depth+in_ok-count_one w ↦
          let small : get_or xs i 0 < 2 ^ 32 - 1 = omega (arith, w.if-depth.true, c.type_inv.depths i) in
          subst (λ (v : Vec ℕ Global). AreCounts (take (i + 1) xs) v.items) (sym w.counts-is)
          (counts_more xs c.loop-depth.counts.items _ i (get_or xs i 0) l refl small w.in_ok-count_one.ensures c.loop-depth.invariant)
      | else-depth w ↦
          let none : get_or xs i 0 ≡ 2 ^ 32 - 1 = omega (arith, w.if-depth.false) in
          subst (λ (v : Vec ℕ Global). AreCounts (take (i + 1) xs) v.items) (sym w.counts-is) (counts_passed xs c.loop-depth.counts.items i l none c.loop-depth.invariant)
    ]
