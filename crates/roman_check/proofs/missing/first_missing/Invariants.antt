use Rattle.roman_check.proofs.Common.{◌*◌, NoneMissing}
use Rattle.roman_check.proofs.missing.first_missing.Given as goal

-- no pair of the rows so far is missing
abbrev pub invariant-loop-x : goal.invariant-loop-x
invariant-loop-x g l = NoneMissing (g.J.Rules.arena l.joint) (g.J.Rules.lanes l.joint) l.words (l.x * g.J.Rules.lanes l.joint)
