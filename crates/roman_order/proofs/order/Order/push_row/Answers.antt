use Rattle.roman_order.proofs.Common.{arith, rules, length-set, get_or_read}
use Rattle.roman_order.proofs.Lanes.{set_lanes-zero}
use Rattle.roman_order.proofs.Tables.{IsPushed, few, pushed}
use Rattle.roman_order.proofs.order.Order.push_row.Given as given
use Rattle.roman_order.proofs.order.Order.push_row.Goals as goal
use Rattle.roman_order.proofs.order.Order.push_row.Goals.{After-clear}

is_pushed : (g : given.Over) (c : After-clear g) → IsPushed c.self.inside (record { row = c.args.x; reason = c.args.reason; lanes = c.args.lost })
is_pushed g c = pushed _ _ _ c.self.view_is c.self.invariant c.requires.row c.requires.within c.requires.alive c.ranges.lost.fits c.if-lost-eq0.false

pub returns-then-lost-eq0 : goal.returns-then-lost-eq0
returns-then-lost-eq0 g c = search (rules, set_lanes-zero)

pub add_batch-requires-clause-room : goal.add_batch-requires-clause-room
add_batch-requires-clause-room g c = grind (arith, few, (is_pushed g (goal.at.add_batch-requires-clause-room g c).After-clear))

pub overflow_add-self : goal.overflow_add-self
overflow_add-self g c = grind (arith, (is_pushed g (goal.at.overflow_add-self g c).After-clear))

pub invariant_of-self : goal.invariant_of-self
invariant_of-self g c =
    let a = c.self.inside in
    let is = is_pushed g (goal.at.invariant_of-self g c).After-clear in
    let read = get_or_read a.words.items c.args.x c.index_mut.result.now (omega (arith, is.row, c.self.invariant.sized.words_long)) c.index_mut.ensures.value 0 in
    record {
      placed = rw (c.add_batch.ensures.entries a.lanes) is.placed;
      counted = rw c.lanes_in.ensures (c.add_batch.ensures.counted a.lanes c.self.invariant.counted is.batch);
      waits = c.self.invariant.waits;
      stamped = rw c.clear.ensures.items (λ p h. absurd (omega arith));
      alive = rw (c.add_batch.ensures.entries a.lanes, read) is.alive;
      sized = search (rules, length-set);
    }
