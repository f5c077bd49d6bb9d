use Rattle.roman_order.proofs.Common.{◌≡◌, arith, length}
use Rattle.roman_order.proofs.Reading.{begins, found, rises}
use Rattle.roman_order.proofs.order.Order.batch_of.Goals as goal

pub place_of-place-requires-clause-start : goal.place_of-place-requires-clause-start
place_of-place-requires-clause-start c =
    let many : c.len.result ≡ length c.self.inside.batches.items = omega (arith, c.len.ensures) in
    let first = (begins c.self.inside c.args.self.now c.args.i c.self.view_is c.self.invariant c.requires).1 in
    rw (many, c.deref.ensures.value) (omega (arith, first))

pub place_of-place-requires-clause-rising : goal.place_of-place-requires-clause-rising
place_of-place-requires-clause-rising c j low =
    let many : c.len.result ≡ length c.self.inside.batches.items = omega (arith, c.len.ensures) in
    rw (many, c.deref.ensures.value) (rises c.self.inside j c.self.invariant (rw (← many) low))

pub returns : goal.returns
returns c =
    let many : c.len.result ≡ length c.self.inside.batches.items = omega (arith, c.len.ensures) in
    let place = rw (many, c.deref.ensures.value) at c.place_of-place.ensures in
    found _ _ _ _ _ _ c.self.view_is c.self.invariant c.requires place.within (rw c.deref-2.ensures.value at c.batch_in.ensures) place.first place.from place.to
