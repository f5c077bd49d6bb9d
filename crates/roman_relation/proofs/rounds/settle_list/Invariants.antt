use Rattle.roman_relation.proofs.Common.{◌≡◌, ◌+◌, ◌-◌, ◌≤◌, ◌∷◌, ◌++◌, true, false, [], length, fall, pairs_of, Begins, AreLevels, AwaitsRound}
use Rattle.roman_relation.proofs.rounds.settle_list.Given as goal

-- rounds were played; from an empty list, the list is the next level
abbrev pub invariant-rounds : goal.invariant-rounds
invariant-rounds g l =
    let A = g.J.Rules.arena l.joint in
    record {
      ready : AwaitsRound A (g.J.Rules.lanes l.joint) (g.J.Rules.band l.joint) l.order;
      begins : Begins l.fn.order.list l.order.list;
      rest : l.order ≡ record l.fn.order { list = l.order.list; marks = l.order.marks; before = l.order.before; levels = l.order.levels };
      fresh : l.is_fresh ≡ true → AreLevels A (l.order.levels ++ length l.order.list ∷ []) l.order.list;
      stale : l.is_fresh ≡ false → l.order.levels ≡ [];
      few : length l.order.levels ≤ length l.order.list;
      cost : l.steps + fall A l.fn.order.list ≤ l.fn.steps + fall A l.order.list;
    }

-- each iteration but the last lists a pair
abbrev pub decreases-rounds : goal.decreases-rounds
decreases-rounds g l = pairs_of l.order - length l.order.list
