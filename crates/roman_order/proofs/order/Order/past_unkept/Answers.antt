use Rattle.roman_order.proofs.Common.{◌≡◌, ◌<◌, ◌∙◌, arith, length, sym}
use Rattle.roman_order.proofs.Firsts.{first_any}
use Rattle.roman_order.proofs.Kept.{passed_over}
use Rattle.roman_order.proofs.Reading.{rows_within}
use Rattle.roman_order.proofs.Tables.{few}
use Rattle.roman_order.proofs.order.Order.past_unkept.Goals as goal

pub next_kept-next-requires-clause-rows : goal.next_kept-next-requires-clause-rows
next_kept-next-requires-clause-rows c =
    let a = c.self.inside in
    rw (c.deref-2.ensures.value, c.deref-3.ensures.value, c.self.invariant.sized.before_long) (rows_within a.rows a.lanes a.batches.items c.self.invariant.placed.in_range c.self.invariant.counted.each)

pub returns : goal.returns
returns c =
    let a = c.self.inside in
    let next = rw (c.deref-2.ensures.value, c.deref-3.ensures.value) at c.next_kept-next.ensures in
    let many : c.len-many.result ≡ length a.batches.items = omega (arith, c.len-many.ensures) in
    let low : c.args.near < length a.batches.items = omega (arith, c.if-near-many.false, c.len-many.ensures) in
    let start = sym c.if-first_in-i.false ∙ rw (many, c.deref.ensures.value) at c.first_in.ensures in
    let place = start ∙ first_any (length a.batches.items) c.args.near 0 a.count a.firsts.items (few a c.self.invariant).firsts low in
    rw (← c.self.view_is) (passed_over a c.args.near _ c.args.i _ c.self.invariant next.within.0 next.within.1 place (rw (many, c.deref-4.ensures.value) at c.first_of.ensures) next.apart)
