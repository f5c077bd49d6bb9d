use Rattle.roman_rank.proofs.Common.{List, ℕ, length, ap, subst, arith, sizes_of, count, length-below, system_of, arena_of, AreCounts}
use Rattle.roman_rank.proofs.Giving.{ranks_small}
use Rattle.roman_rank.proofs.Systems.{few_pairs}
use Rattle.roman_rank.proofs.Telling.{ranks_depths}
use Rattle.roman_rank.proofs.ranks.Ranks.build.Goals as goal

pub counts_of-requires : goal.counts_of-requires
counts_of-requires g c = omega (arith, ap length c.deref.ensures.value, c.in_ok-depths.ensures.long, few_pairs c.args.relation.now.joint c.known.ensures)

pub invariant_of-result : goal.invariant_of-result
invariant_of-result g c = record {
  few = omega (arith, c.in_ok-depths.ensures.long, few_pairs c.args.relation.now.joint c.known.ensures);
  small = ranks_small (arena_of c.args.relation.now.joint) c.in_ok-depths.depths.items c.in_ok-depths.ensures;
  counted = subst (λ (xs : List ℕ). AreCounts xs c.in_ok-counts.counts.items) c.deref.ensures.value c.in_ok-counts.ensures;
}

pub returns : goal.returns
returns g c =
    let s = system_of c.args.relation.now.joint in
    record { depths = ranks_depths s c.in_ok-depths.depths.items c.known.ensures.system (length-below (count (sizes_of s))) c.in_ok-depths.ensures }
