use Rattle.roman_repair.proofs.Common.{◌≡◌, length, GoesOnTo, candidates}
use Rattle.roman_repair.proofs.replaying.replay.Given as goal

-- the candidates of the entries that still wait are left
abbrev pub invariant-replay : goal.invariant-replay
invariant-replay g l = record {
  goes : GoesOnTo (g.J.Rules.arena l.joint) (g.J.Rules.lanes l.joint) (candidates l.newcomer.states l.fn.order) (candidates l.newcomer.states l.order) l.fn.order.list l.order.list l.probe l.fn.steps l.steps;
  rest : l.order ≡ record l.fn.order { list = l.order.list; waiting = l.order.waiting };
}

-- each iteration takes a waiting entry
abbrev pub decreases-replay : goal.decreases-replay
decreases-replay g l = length l.order.waiting
