use Rattle.roman_cost.proofs.Common.{◌≡◌, map, filter, below, rank, system_of}
use Rattle.roman_cost.proofs.Ranks.{related_at}
use Rattle.roman_cost.proofs.filling.ranked_pairs.Given as goal

-- the related pairs so far, and the ranks of all so far
abbrev pub invariant-loop-p : goal.invariant-loop-p
invariant-loop-p l = record {
  pairs : l.pairs.items ≡ filter (related_at (system_of l.relation.joint)) (below l.p);
  ranks : l.ranks.items ≡ map (rank (related_at (system_of l.relation.joint))) (below l.p);
}
