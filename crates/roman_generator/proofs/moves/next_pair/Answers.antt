use Rattle.roman_generator.proofs.Common.{◌≡◌, ◌<◌, slice_index, sym, ap, ◌∙◌, subst, arith, length-map, slice_get_within, Sizes, count, number, pair_at, move_in_range, triple_in_range, numbers_are_pairs, moved, system_of}
use Rattle.roman_generator.proofs.MoveLemmas.{ready_seat, at_number, seen_within, all_move}
use Rattle.roman_generator.proofs.moves.next_pair.Goals as goal

pub part_of-b-requires-clause-component : goal.part_of-b-requires-clause-component
part_of-b-requires-clause-component c = grind (arith, length-map, ready_seat, slice_get_within)

pub target_after-requires-clause-before : goal.target_after-requires-clause-before
target_after-requires-clause-before c = (_, at_number _ _ c.args.p _ _ _ c.args.a c.args.k c.args.b2 c.args.e2 c.shape-shape.ensures c.requires.pair c.target_of-t.ensures.value c.env_of-e.ensures.value c.part_of-b.ensures.value c.requires.allowed)

pub returns-in_err-to-clause-none : goal.returns-in_err-to-clause-none
returns-in_err-to-clause-none c =
    let before = at_number _ _ c.args.p _ _ _ c.args.a c.args.k c.args.b2 c.args.e2 c.shape-shape.ensures c.requires.pair c.target_of-t.ensures.value c.env_of-e.ensures.value c.part_of-b.ensures.value c.requires.allowed in
    rw c.from_residual.ensures (c.in_err-to.ensures.none _ before)

pub moved-requires-clause-t : goal.moved-requires-clause-t
moved-requires-clause-t c =
    let before = at_number _ _ c.args.p _ _ _ c.args.a c.args.k c.args.b2 c.args.e2 c.shape-shape.ensures c.requires.pair c.target_of-t.ensures.value c.env_of-e.ensures.value c.part_of-b.ensures.value c.requires.allowed in
    let (target, step) = c.in_ok-to.ensures.moves _ before in
    subst (λ (m : Sizes). c.in_ok-to.to < m.target) (sym c.shape-shape.ensures) (move_in_range _ _ _ _ _ _ c.known.ensures.system.target target.1).3

pub moved-requires-clause-e : goal.moved-requires-clause-e
moved-requires-clause-e c =
    let before = at_number _ _ c.args.p _ _ _ c.args.a c.args.k c.args.b2 c.args.e2 c.shape-shape.ensures c.requires.pair c.target_of-t.ensures.value c.env_of-e.ensures.value c.part_of-b.ensures.value c.requires.allowed in
    let (target, step) = c.in_ok-to.ensures.moves _ before in
    subst (λ (m : Sizes). c.args.e2 < m.env) (sym c.shape-shape.ensures) (triple_in_range _ _ _ _ c.known.ensures.system.env target.0).2

pub moved-requires-clause-state : goal.moved-requires-clause-state
moved-requires-clause-state c =
    let s = system_of c.args.joint.now in
    let before = at_number _ _ c.args.p _ _ _ c.args.a c.args.k c.args.b2 c.args.e2 c.shape-shape.ensures c.requires.pair c.target_of-t.ensures.value c.env_of-e.ensures.value c.part_of-b.ensures.value c.requires.allowed in
    let (target, step) = c.in_ok-to.ensures.moves _ before in
    subst (λ (m : Sizes). c.args.b2 < slice_index m.seats c.args.k) (sym c.shape-shape.ensures) (seen_within s _ _ _ _ _ c.known.ensures.system ((numbers_are_pairs s).pair c.args.p c.requires.pair) step)

pub returns-clause-moves : goal.returns-clause-moves
returns-clause-moves c =
    let s = system_of c.args.joint.now in
    let before = at_number _ _ c.args.p _ _ _ c.args.a c.args.k c.args.b2 c.args.e2 c.shape-shape.ensures c.requires.pair c.target_of-t.ensures.value c.env_of-e.ensures.value c.part_of-b.ensures.value c.requires.allowed in
    let (target, step) = c.in_ok-to.ensures.moves _ before in
    all_move s c.args.p c.args.a c.args.k c.args.b2 c.args.e2 c.in_ok-to.to c.moved.result c.known.ensures.system c.requires.pair target step
    (c.moved.ensures.number ∙ ap (λ (m : Sizes). number m (moved (pair_at m c.args.p) c.in_ok-to.to c.args.e2 c.args.k c.args.b2)) c.shape-shape.ensures)
    (subst (λ (m : Sizes). c.moved.result < count m) c.shape-shape.ensures c.moved.ensures.below)
