use Rattle.roman_check.proofs.Common.{◌≡◌, ◌*◌, length, NoneMissing}
use Rattle.roman_check.proofs.missing.rows_complete.Given as goal

-- no pair of the bands so far is missing
abbrev pub invariant-loop-y : goal.invariant-loop-y
invariant-loop-y g l = record {
  long : length l.left ≡ g.J.Rules.band l.joint;
  none : NoneMissing (g.J.Rules.arena l.joint) (g.J.Rules.lanes l.joint) l.words (l.y * g.J.Rules.band l.joint * g.J.Rules.lanes l.joint);
}
