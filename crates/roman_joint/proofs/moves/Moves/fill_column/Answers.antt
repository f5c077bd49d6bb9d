use Rattle.roman_joint.proofs.Common.{Beh, Sizes, [], ap, arith, false, length, mul-le-mul, slice_index, subst, sym, ◌*◌, ◌+◌, ◌-◌, ◌∙◌, ◌∷◌, ◌≡◌, ◌≤◌, length-append, length-map, low_in, low_of, low_of-le, mul-le-mul_left, get_in, seat_of, system_in, within_in}
use Rattle.roman_joint.proofs.MoveLemmas.{lanes_room, room_more, seat_here, sizes_long, spans_more, suits_kept, column_at}
use Rattle.roman_joint.proofs.moves.Moves.fill_column.Goals as goal

pub add-requires-clause-shifts : goal.add-requires-clause-shifts
add-requires-clause-shifts c =
    let parts = c.args.parts.now in
    let of = c.requires.seats in
    let at = column_at parts.environment.now.env c.args.self.now c.args.column c.requires.filled.suits c.requires.column of.known.system.env.actions.0 in
    let read = seat_here parts c.args.shape.now c.loop-k.k c.index-seats-k.result c.index-catalogue-seat.result of (omega arith) c.index-seats-k.is c.index-catalogue-seat.is in
    let beh = of.known.system.seats _ (get_in (system_in parts).seats c.loop-k.k _ read.seated) in
    record {
      laid = c.requires.rows;
      within = omega (arith, c.loop-k.invariant.from, ap (λ (m : Sizes). low_of m.seats) of.sizes_are);
      seat = omega (arith, sizes_long parts c.args.shape.now of);
      states = sym read.size ∙ ap (λ (m : Sizes). slice_index m.seats c.loop-k.k) (sym of.sizes_are);
      few = subst (λ (b : Beh). b.states ≤ 64) (sym read.beh) beh.states.1;
      env = omega (arith, at.env_state, read.env_states);
      action = omega (arith, at.action, read.actions);
    }

pub add-requires-clause-room : goal.add-requires-clause-room
add-requires-clause-room c =
    let parts = c.args.parts.now in
    let i = c.loop-k.invariant in
    let known = c.requires.seats.known.system in
    let more = room_more c.args.shape.now.seats c.loop-k.k (omega (arith, sizes_long parts c.args.shape.now c.requires.seats)) in
    let services : length (system_in parts).seats ≡ length parts.seats.now = length-map parts.seats.now (seat_of parts.catalogue.now) in
    let few : within_in (system_in parts) ≤ 32 = omega (arith, known.few) in
    let spans : c.args.column * within_in (system_in parts) ≤ c.args.column * 32 = mul-le-mul_left c.args.column few in
    record {
      few = omega (arith, more, i.few, i.suits.for_moves, lanes_room c.args.shape.now c.requires.rows.ok, c.requires.column);
      place = omega (arith, spans, few, services, i.from, i.long, i.suits.for_spans, c.requires.column);
      small = omega (arith, i.suits.for_moves, mul-le-mul known.env.states.1 known.env.actions.1);
    }

pub loop-k-preserved : goal.loop-k-preserved
loop-k-preserved c =
    let parts = c.args.parts.now in
    let s = system_in parts in
    let of = c.requires.seats in
    let at = column_at parts.environment.now.env c.args.self.now c.args.column c.requires.filled.suits c.requires.column of.known.system.env.actions.0 in
    let read = seat_here parts c.args.shape.now c.loop-k.k c.index-seats-k.result c.index-catalogue-seat.result of (omega arith) c.index-seats-k.is c.index-catalogue-seat.is in
    let i = c.loop-k.invariant in
    let added = c.add.ensures.added in
    let more = room_more c.args.shape.now.seats c.loop-k.k (omega (arith, sizes_long parts c.args.shape.now of)) in
    record {
      from = omega (arith, i.from);
      long = omega (arith, i.from, i.long, ap length added.spans, length-append c.loop-k.self.spans.items (added.span ∷ []));
      few = omega (arith, more, added.few, i.few, ap length added.moves, length-append c.loop-k.self.moves.items added.more);
      spans = spans_more s c.loop-k.k _ _ _ _ c.loop-k.self c.add.new.self read.seated read.beh i.from at.action (i.long ∙ ap (λ m. m * within_in s + (c.loop-k.k - low_in s)) at.whole) i.spans (rw of.sizes_are at added);
      suits = suits_kept parts.environment.now.env _ _ added.kept i.suits;
    }

pub returns : goal.returns
returns c =
    let parts = c.args.parts.now in
    let s = system_in parts in
    let i = c.loop-k.invariant in
    let low = ap (λ (m : Sizes). low_of m.seats) c.requires.seats.sizes_are in
    let long = sizes_long parts c.args.shape.now c.requires.seats in
    let all : c.loop-k.k - low_in s ≡ within_in s = omega (arith, c.loop-k-test.false, low_of-le c.args.shape.now.seats, length-map parts.seats.now (seat_of parts.catalogue.now)) in
    record {
      suits = i.suits;
      columns = record {
        long = i.long ∙ (ap (λ m. c.args.column * within_in s + m) all ∙ omega arith);
        few = omega (arith, i.few, lanes_room c.args.shape.now c.requires.rows.ok);
        spans_at = i.spans;
      };
    }
