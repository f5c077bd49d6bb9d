use Rattle.roman_rank.proofs.Common.{◌≡◌, ◌+◌, ◌-◌, ◌^◌, ◌<◌, ◌++◌, length, take, drop, slice_index, sym, ap, ◌∙◌, subst, arith, add-one, AreRanksBelow, GivesLevel, length-map}
use Rattle.roman_rank.proofs.Giving.{start_of, start_next, front_is, ranks_more, ranks_all}
use Rattle.roman_rank.proofs.levels.depths_by.Goals as goal

pub loop-n-preserved : goal.loop-n-preserved
loop-n-preserved g c =
    let A = g.J.Rules.arena c.args.joint.now in
    let L = c.args.order.now.list in
    let levels = c.args.order.now.levels in
    let n = c.loop-n.n in
    let old = c.loop-n.depths.items in
    let new = c.give_depth-near.new.depths in
    let end : slice_index c.levels-in-loop-n.result.now n ≡ slice_index levels n = ap (λ xs. slice_index xs n) c.levels-in-loop-n.ensures in
    let lent : c.deref_mut.result.now ≡ old = c.deref_mut.ensures.value in
    let long : length new ≡ length old = omega (arith, c.give_depth-near.auto.depths, ap length lent) in
    let back : take c.loop-n.depths.len (new ++ drop (length new) old) ≡ new = front_is c.loop-n.depths.len new (drop (length new) old) (omega (arith, long, c.loop-n.depths.ok.0)) in
    let few : n < 2 ^ 32 - 1 = omega (arith, c.loop-n-test.true, c.min-count.ensures, c.pairs-pairs.ensures, c.requires.few) in
    let within : n < length levels = omega (arith, c.loop-n-test.true, c.min-count.ensures, ap length c.levels.ensures) in
    let gives : GivesLevel L (start_of levels n) (slice_index levels n) n old new =
    subst (λ xs. GivesLevel L (start_of levels n) (slice_index levels n) n xs new) lent (subst (λ k. GivesLevel L (start_of levels n) k n c.deref_mut.result.now new) end
    (subst (λ k. GivesLevel L k (slice_index c.levels-in-loop-n.result.now n) n c.deref_mut.result.now new) c.loop-n.invariant.start c.give_depth-near.ensures)) in
    record {
      start = end ∙ sym (start_next levels n);
      ranks = subst (λ xs. AreRanksBelow A (n + 1) xs) (sym back) (subst (λ m. AreRanksBelow A m new) (sym (add-one n))
          (ranks_more A c.known.ensures.numbered levels L n old new c.requires.levels c.known-2.ensures.distinct (length-map L (λ x. x.node)) within few long gives c.loop-n.invariant.ranks));
    }

pub returns : goal.returns
returns g c =
    ranks_all (g.J.Rules.arena c.args.joint.now) c.known.ensures.numbered c.args.order.now.levels c.args.order.now.list c.loop-n.n c.loop-n.depths.items c.requires.levels c.requires.all
    (omega (arith, c.loop-n-test.false, c.loop-n.auto.n-end, c.min-count.ensures, c.pairs-pairs.ensures, ap length c.levels.ensures)) c.loop-n.invariant.ranks
