use Rattle.roman_repair.proofs.Common.{refl, sym, ◌∙◌, subst, arith, words_rows, HasFront}
use Rattle.roman_repair.proofs.Replayed.{dropped, in_row, lane_alive, listed, seat_in}
use Rattle.roman_repair.proofs.batches.keep_front.Goals as goal

pub returns-then-holds : goal.returns-then-holds
returns-then-holds g c =
    let known = c.requires.ready.1.known in
    listed _ (g.J.Rules.lanes c.args.joint.now) _ _ _ c.args.batch c.args.order.now _ _ _ _ _ c.requires (subst (HasFront _ _ _ _) c.if-holds.true c.first_alike-front.ensures)
    (c.known_at-known.ensures _ _ _ known).each refl known (λ lane l possible. omega arith) c.push_lanes.ensures

pub probe_batch-held-requires : goal.probe_batch-held-requires
probe_batch-held-requires g c =
    let row = in_row _ _ _ _ _ c.known.ensures.numbered c.requires in
    record { seat = seat_in (g.J.Rules.arena c.args.joint.now) _ _ _ c.requires.ready.1.may; row = row.node; reason = row.action; room = grind arith }

pub returns-then-holds-2 : goal.returns-then-holds-2
returns-then-holds-2 g c =
    let held = c.probe_batch-held.ensures in
    let rows = words_rows _ c.known.ensures.numbered _ c.args.order.now c.words.result.now c.requires.shaped c.words.ensures.alive in
    listed _ (g.J.Rules.lanes c.args.joint.now) _ _ _ c.args.batch c.args.order.now _ _ _ _ _ c.requires (subst (HasFront _ _ _ _) c.if-holds-2.true c.first_alike-front-2.ensures)
    (λ lane l on. sym (held.holds _ rows lane l) ∙ on) held.alone (held.known _ rows c.requires.ready.1.known) (λ lane l possible. omega (arith, held.cost lane l possible)) c.push_lanes-then-holds-2.ensures

pub returns : goal.returns
returns g c =
    let held = c.probe_batch-held.ensures in
    let rows = words_rows _ c.known.ensures.numbered _ c.args.order.now c.words.result.now c.requires.shaped c.words.ensures.alive in
    dropped _ (g.J.Rules.lanes c.args.joint.now) _ _ _ c.args.batch c.args.order.now _ _ _ _ c.requires (subst (HasFront _ _ _ _) c.if-holds-2.false c.first_alike-front-2.ensures) (held.holds _ rows) c.probe_all.ensures.alone
    (c.probe_all.ensures.known _ _ _ (held.known _ rows c.requires.ready.1.known)) (λ lane l possible. omega (arith, held.cost lane l possible))

pub push_lanes-requires-clause-row : goal.push_lanes-requires-clause-row
push_lanes-requires-clause-row g c = (in_row _ _ _ _ _ c.known.ensures.numbered c.requires).row

pub push_lanes-requires-clause-alive : goal.push_lanes-requires-clause-alive
push_lanes-requires-clause-alive g c lane on = lane_alive _ _ _ _ _ lane c.requires c.known.ensures.lanes.1 (c.first_alike-front.ensures.in_front lane on)

pub push_lanes-requires-then-holds-2-clause-row : goal.push_lanes-requires-then-holds-2-clause-row
push_lanes-requires-then-holds-2-clause-row g c = (in_row _ _ _ _ _ c.known.ensures.numbered c.requires).row

pub push_lanes-requires-then-holds-2-clause-alive : goal.push_lanes-requires-then-holds-2-clause-alive
push_lanes-requires-then-holds-2-clause-alive g c lane on = lane_alive _ _ _ _ _ lane c.requires c.known.ensures.lanes.1 (c.first_alike-front-2.ensures.in_front lane on)
