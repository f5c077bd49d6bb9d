use Rattle.roman_cost.proofs.Common.{◌≡◌, ◌<◌, ℕ, Bool, Vec, Global, List, [], ◌∷◌, ◌++◌, length, ap, sym, ◌∙◌, arith, filter, rank, below, related_pairs, sizes_of, count, system_of}
use Rattle.roman_cost.proofs.Best.{filter_taken, filter_passed}
use Rattle.roman_cost.proofs.Ranks.{related_at, told_related, rank-le, ranks_more, ranks_done}
use Rattle.roman_cost.proofs.filling.ranked_pairs.Goals as goal
use Rattle.roman_cost.proofs.filling.ranked_pairs.Goals.{then-related+in_ok-push-2, else-related}

pub overflow_cast-len : goal.overflow_cast-len
overflow_cast-len c = grind (arith, rank, rank-le, related_at)

pub loop-p-preserved : goal.loop-p-preserved
loop-p-preserved c =
    let s = system_of c.args.relation.now.joint in
    let q : ℕ → Bool = related_at s in
    let p : ℕ = c.loop-p.p in
    let l : p < count (sizes_of s) = omega (arith, c.loop-p-test.true, c.pairs-count.ensures, ap count c.shape.ensures) in
    let told : c.related.result ≡ q p = told_related s p c.related.result c.known.ensures.system l (c.related.ensures.great c.requires.complete) in
    let r : c.len.result ≡ rank q p = let own : c.len.result ≡ length c.loop-p.pairs.items = omega (arith, c.len.ensures, c.loop-p.pairs.ok.0) in own ∙ ap length c.loop-p.invariant.pairs in
    record {
      pairs = elim c.if-related.branch [
        | then-related+in_ok-push-2 w ↦ ap (λ (v : Vec ℕ Global). v.items) w.pairs-is ∙ w.in_ok-push-2.ensures.items ∙ ap (λ (ps : List ℕ). ps ++ p ∷ []) c.loop-p.invariant.pairs ∙ sym (filter_taken q p (sym told ∙ w.if-related.true))
        | else-related w ↦ ap (λ (v : Vec ℕ Global). v.items) w.pairs-is ∙ c.loop-p.invariant.pairs ∙ sym (filter_passed q p (sym told ∙ w.if-related.false))
      ];
      ranks = ranks_more q p c.loop-p.ranks.items c.push.new.self.items c.len.result c.loop-p.invariant.ranks r c.in_ok-push.ensures.items;
    }

pub returns-clause-ranks : goal.returns-clause-ranks
returns-clause-ranks c =
    let s = system_of c.args.relation.now.joint in
    let end : c.loop-p.p ≡ count (sizes_of s) = omega (arith, c.loop-p-test.false, c.loop-p.auto.p-end, c.pairs-count.ensures, ap count c.shape.ensures) in
    ranks_done (related_at s) c.loop-p.p (related_pairs s) c.loop-p.ranks.items (ap (λ n. filter (related_at s) (below n)) (sym end)) c.loop-p.invariant.ranks
