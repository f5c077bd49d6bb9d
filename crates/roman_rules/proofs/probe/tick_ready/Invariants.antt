use Rattle.roman_rules.proofs.Common.{◌≡◌, ◌+◌, count_by, below}
use Rattle.roman_rules.proofs.probe.tick_ready.Given as goal

-- one step for each ready seat so far
abbrev pub invariant-loop-k : goal.invariant-loop-k
invariant-loop-k g l = let A = g.J.Rules.arena l.joint in l.steps ≡ l.fn.steps + count_by A.ready (below l.k)
