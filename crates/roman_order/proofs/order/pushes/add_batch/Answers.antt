use Rattle.roman_order.proofs.Common.{◌≡◌, ◌∙◌, arith, length, length-append}
use Rattle.roman_order.proofs.Batches.{AreCounted-extended, AreCounted-push, entries_of-extended, entries_of-push}
use Rattle.roman_order.proofs.order.pushes.add_batch.Goals as goal

pub returns-then-takes : goal.returns-then-takes
returns-then-takes g c =
    let takes = c.takes.ensures.last c.if-takes.true _ _ (c.deref.ensures.value ∙ c.in-Some.ensures.items) in
    let many : length c.push_reserved.new.self.items ≡ length c.args.batches.now.items = omega (arith, c.in-Some.ensures.len, c.push_reserved.ensures.len) in
    record {
      entries = λ lanes. rw (c.push_reserved.ensures.items, c.in-Some.ensures.items) (entries_of-extended lanes _ _ _ takes);
      counted = λ lanes was is. rw (many, c.push_reserved.ensures.items, c.in-Some.ensures.items) (AreCounted-extended _ _ _ _ _ _ (rw c.in-Some.ensures.items at was) is takes);
      room = grind arith;
    }

pub returns : goal.returns
returns g c =
    let many : c.len.result ≡ length c.args.batches.now.items = omega (arith, c.len.ensures) in
    let places = rw many at c.push_first.ensures.places in
    record {
      entries = λ lanes. rw c.push_reserved-2.ensures.items (entries_of-push lanes _ _);
      counted = λ lanes was is. rw (c.push_reserved-2.ensures.items, length-append, places) (AreCounted-push _ _ _ _ _ was is);
      room = grind arith;
    }
