use Rattle.roman_order.proofs.Common.{◌≡◌, ℕ, ◌+◌, ◌*◌, ◌/◌, ◌%◌, ◌<◌, Some, false, drop, sym, ◌∙◌, arith, eqb, length-append, is_on, entries_at, entries_of, has_entry, place_in_list, Entry, mod_below, div-add-mod', and_parts, eqb-true}
use Rattle.roman_order.proofs.Batches.{length-entries_at}
use Rattle.roman_order.proofs.Places.{position_from-bound}
use Rattle.roman_order.proofs.Stamps.{place_in_batch, position_from-past, has_entry-batch}
use Rattle.roman_order.proofs.order.places.place_in.Goals as goal

-- the place of the pair, once its batch is found
place_at : (c : goal.After-lanes_before) → place_in_list (entries_of c.args.lanes c.args.batches.now) c.args.p ≡ Some (c.loop-j.place + c.lanes_before.result)
place_at c =
    let e = c.batch_in-batch.result in
    let rest = entries_of c.args.lanes (drop (c.loop-j.j + 1) c.args.batches.now) in
    let (row, on) = and_parts (eqb e.row (c.args.p / c.args.lanes)) (is_on e.lanes (c.args.p % c.args.lanes)) (sym c.has_lane.ensures ∙ c.if-has_lane.true) in
    let low : c.args.p % c.args.lanes < c.args.lanes = mod_below c.args.p c.args.lanes c.requires.lanes.0 in
    let found = place_in_batch c.args.lanes e (c.args.p % c.args.lanes) c.loop-j.place rest (omega arith) on in
    let same : e.row * c.args.lanes + c.args.p % c.args.lanes ≡ c.args.p = rw (eqb-true e.row _ row) (div-add-mod' c.args.p c.args.lanes) in
    grind (arith, (rw same at found))

pub overflow_add-result : goal.overflow_add-result
overflow_add-result c = omega (arith, position_from-bound (λ (y : Entry ℕ). eqb c.args.p y.node) 0 (entries_of c.args.lanes c.args.batches.now) _ (place_at c), c.requires.few)

pub returns-then-has_lane : goal.returns-then-has_lane
returns-then-has_lane c = sym (place_at c)

pub loop-j-preserved : goal.loop-j-preserved
loop-j-preserved c =
    let e = c.batch_in-batch.result in
    let lanes = c.args.lanes in
    let rest = entries_of lanes (drop (c.loop-j.j + 1) c.args.batches.now) in
    let off : has_entry (entries_at lanes e) c.args.p ≡ false = grind (arith, div-add-mod', mod_below, (has_entry-batch lanes e (c.args.p / lanes) (c.args.p % lanes))) in
    grind (arith, length-append, length-entries_at, (position_from-past (λ (y : Entry ℕ). eqb c.args.p y.node) c.loop-j.place (entries_at lanes e) rest off))
