use Rattle.roman_rank.proofs.Common.{take, AreCounts}
use Rattle.roman_rank.proofs.counting.counts_of.Given as goal

-- the depths so far are counted
abbrev pub invariant-loop-depth : goal.invariant-loop-depth
invariant-loop-depth l = AreCounts (take l.depth-index l.depths) l.counts.items
