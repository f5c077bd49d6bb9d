use Rattle.roman_rank.proofs.Common.{◌≡◌, AreRanksBelow}
use Rattle.roman_rank.proofs.Giving.{start_of}
use Rattle.roman_rank.proofs.levels.depths_by.Given as goal

-- the levels so far are assigned
abbrev pub invariant-loop-n : goal.invariant-loop-n
invariant-loop-n g l = record {
  start : l.start ≡ start_of l.order.levels l.n;
  ranks : AreRanksBelow (g.J.Rules.arena l.joint) l.n l.depths.items;
}
