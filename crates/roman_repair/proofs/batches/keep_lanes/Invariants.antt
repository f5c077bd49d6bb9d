use Rattle.roman_repair.proofs.Common.{length, set_lanes, entries_at, HasJudged}
use Rattle.roman_repair.proofs.batches.keep_lanes.Given as goal

-- the entries for the remaining lanes are left
abbrev pub invariant-left : goal.invariant-left
invariant-left g l = HasJudged (g.J.Rules.arena l.joint) (g.J.Rules.lanes l.joint) (entries_at (g.J.Rules.lanes l.joint)) l.batch l.left l.fn.order l.order l.fn.probe l.probe l.fn.steps l.steps

-- each iteration takes at least one lane
abbrev pub decreases-left : goal.decreases-left
decreases-left g l = length (set_lanes l.left)
