use Rattle.roman_joint.proofs.Common.{IsSpan, span_place, within_in, AreLaneMoves, Span, arith, length, refl, slice_index_or, ℕ, ◌*◌, ◌+◌, ◌-◌, ◌<◌, ◌≡◌, not, [], cond, slice_get, sym, ap, subst, ◌∙◌, Option, Some, IsTrue, Bool, count, sizes_of, length-map, low_in, lane_state_of, seat_of, system_of, beh_next, seat_next, is_empty, on_zero, Seat, list_any, stride_of}
use Rattle.roman_joint.proofs.BehaviourLemmas.{seat_read}
use Rattle.roman_joint.proofs.MoveLemmas.{place_within}
use Rattle.roman_joint.proofs.joint.Joint.lane_moves.Goals as goal
use Rattle.roman_joint.proofs.joint.Joint.lane_moves.Goals.{After-from-5}

-- the place of the span in the table
abbrev place : After-from-5 → ℕ
place c = (c.from.result * c.table-table.result.now.actions + c.from-2.result) * (c.from-3.result - c.from-4.result) + c.from-5.result

-- the span at this place of the table
record Stands (c : After-from-5) : Type 0 where
  inside : place c < length c.table-table.result.now.spans.items
  span : (span : Span) → span ≡ slice_index_or c.table-table.result.now.spans.items (place c) span → IsSpan (system_of c.args.self.now) (span_place (system_of c.args.self.now) c.args.e c.args.a c.args.k) span c.table-table.result.now.moves.items

stands : (c : After-from-5) → Stands c
stands c =
    let n = c.args.self.now in
    let s = system_of n in
    let low = c.layout-rows.ensures.rows.low in
    let seats = length-map n.seats (seat_of n.catalogue) in
    let held = c.table-table.ensures in
    let lows : c.from-3.result - c.from-4.result ≡ within_in s = omega (arith, c.seats.ensures.count, seats, c.from-3.ensures, c.from-4.ensures, low) in
    let seat : c.from-5.result ≡ c.args.k - low_in s = omega (arith, c.from-5.ensures, low) in
    let is : place c ≡ span_place s c.args.e c.args.a c.args.k = rw (c.from.ensures, c.from-2.ensures, held.suits.actions, lows, seat) refl in
    let inside : span_place s c.args.e c.args.a c.args.k < length c.table-table.result.now.spans.items =
    omega (arith, place_within s c.args.e c.args.a c.args.k c.requires.within (omega (arith, c.requires.seat, seats)) c.requires.env c.requires.action, held.columns.long) in
    record { inside = rw is inside; span = λ span there. held.columns.spans_at.each _ span inside (rw is at there) }

pub index-span-requires : goal.index-span-requires
index-span-requires c = omega (arith, (stands (goal.at.index-span-requires c).After-from-5).inside, c.table-table.result.now.spans.ok.0)

pub moves_between-requires-clause-order : goal.moves_between-requires-clause-order
moves_between-requires-clause-order c = ((stands (goal.at.moves_between-requires-clause-order c).After-from-5).span c.index-span.result.now c.index-span.ensures).first

pub moves_between-requires-clause-within : goal.moves_between-requires-clause-within
moves_between-requires-clause-within c = rw c.deref.ensures.value ((stands (goal.at.moves_between-requires-clause-within c).After-from-5).span c.index-span.result.now c.index-span.ensures).last

frozen_next : (o : Option Seat) (seat : Seat) (b e a : ℕ) → o ≡ Some seat → IsTrue seat.frozen → seat_next o b e a ≡ []
frozen_next o seat b e a is frozen = ap (λ x. seat_next x b e a) is ∙ ap (λ f. cond f [] (beh_next seat.beh b e a)) frozen

pub returns-then-seat : goal.returns-then-seat
returns-then-seat c =
    let n = c.args.self.now in
    let none : (b : ℕ) → seat_next (slice_get (system_of n).seats c.args.k) b c.args.e c.args.a ≡ [] = λ b. frozen_next _ (seat_of n.catalogue c.seat.result.now) b c.args.e c.args.a (seat_read n c.args.k _ c.seat.ensures) c.if-seat.true in
    record {
      each = λ lane l. on_zero lane ∙ sym (ap (λ xs. not (is_empty xs)) (none _));
      rest = λ lane l. on_zero lane;
      small = λ move i. absurd i;
      within = λ move lane i l on. absurd i;
      leads = λ test lane l. sym (ap (list_any (λ b. test (lane + b * stride_of (sizes_of (system_of n)) c.args.k - lane_state_of (sizes_of (system_of n)) c.args.k lane * stride_of (sizes_of (system_of n)) c.args.k))) (none _));
    }

pub returns : goal.returns
returns c =
    let n = c.args.self.now in
    let seat = seat_of n.catalogue c.seat.result.now in
    let seated = seat_read n c.args.k _ c.seat.ensures in
    let next = λ (f : Bool) (b : ℕ). cond f [] (beh_next seat.beh b c.args.e c.args.a) in
    subst (λ o. AreLaneMoves (sizes_of (system_of n)) c.args.k (λ b. seat_next o b c.args.e c.args.a) c.index-span.result.now.some c.moves_between.result.now) (sym seated)
    (subst (λ f. AreLaneMoves (sizes_of (system_of n)) c.args.k (next f) c.index-span.result.now.some c.moves_between.result.now) (sym c.if-seat.false)
    (rw (c.moves_between.ensures, c.deref.ensures.value)
    (((stands (goal.at.returns c).After-from-5).span c.index-span.result.now c.index-span.ensures).moves_of c.args.e c.args.a c.args.k seat refl c.requires.action c.requires.within seated)))
