use Rattle.roman_relation.proofs.Common.{◌≡◌, ◌-◌, ◌≤◌, drop, take}
use Rattle.roman_relation.proofs.Noting.{IsReached}
use Rattle.roman_relation.proofs.rounds.losses.mark_losses.Given as goal

-- the bands of the entries so far are noted
abbrev pub invariant-losses : goal.invariant-losses
invariant-losses g l = record {
  start : l.start ≤ l.i;
  within : l.i ≤ l.end;
  rest : l.order ≡ record l.fn.order { marks = l.order.marks; before = l.order.before };
  reached : IsReached (g.J.Rules.arena l.joint) (g.J.Rules.lanes l.joint) (g.J.Rules.band l.joint) (g.J.Rules.mid l.joint) l.start l.fn.steps l.steps (drop l.start (take l.i l.order.list)) l.order;
}

abbrev pub decreases-losses : goal.decreases-losses
decreases-losses g l = l.end - l.i
