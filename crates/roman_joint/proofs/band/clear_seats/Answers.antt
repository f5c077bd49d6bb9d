use Rattle.roman_joint.proofs.Common.{◌≡◌, ℕ, ◌*◌, ◌<◌, ◌≤◌, slice_index, ◌∙◌, subst, arith, length, and_assoc, length-map, is_beaten, numbered, system_of, seat_of, band_in, ClearsAllServed}
use Rattle.roman_joint.proofs.BandLemmas.{keeps_cut}
use Rattle.roman_joint.proofs.band.clear_seats.Goals as goal

pub returns-then-are_clear : goal.returns-then-are_clear
returns-then-are_clear c =
    let n = c.args.joint.now in
    let s = system_of n in
    let before = c.loop-k.invariant in
    let none : (i : ℕ) → i < band_in s → slice_index c.loop-k.left i ≡ 0 = λ i l. c.are_clear.ensures c.if-are_clear.true i (omega (arith, l, before.long, c.requires.long)) in
    let seats : c.loop-k.k ≤ length s.seats = omega (arith, c.loop-k-test.true, c.seats-k-end.ensures.count, length-map n.seats (seat_of n.catalogue)) in
    record { long = before.long; left = λ y gone ok rows living. keeps_cut s (y * band_in s) (band_in s) _ _ (λ p. is_beaten (numbered s) gone p c.args.attempt.now.action) _ _ seats none (before.left y gone ok rows living) }

pub loop-k-preserved : goal.loop-k-preserved
loop-k-preserved c = record {
  long = c.clear_seat.ensures.long ∙ c.loop-k.invariant.long;
  left = λ y gone ok rows living. let before = c.loop-k.invariant.left y gone ok rows living in let here = c.clear_seat.ensures.left y gone ok rows living in grind (arith, and_assoc);
}

pub returns : goal.returns
returns c =
    let n = c.args.joint.now in
    let s = system_of n in
    let end : c.loop-k.k ≡ length s.seats = omega (arith, c.loop-k-test.false, c.loop-k.auto.k-end, c.seats-k-end.ensures.count, length-map n.seats (seat_of n.catalogue)) in
    subst (λ m. ClearsAllServed s c.args.attempt.now c.args.alive.now m c.args.left.now c.loop-k.left) end c.loop-k.invariant
