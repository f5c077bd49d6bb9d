use Rattle.roman_repair.proofs.Common.{sym, ◌∙◌, subst, AreSizes, Sizes, length-map, Newcomer, seat_of}
use Rattle.roman_repair.proofs.Waiting.{can_readmit, readmitted}
use Rattle.roman_repair.proofs.OtherSeats.{join_readmits}
use Rattle.roman_repair.proofs.joining.join.Goals as goal

pub replay_and_settle_on-requires-clause-ready : goal.replay_and_settle_on-requires-clause-ready
replay_and_settle_on-requires-clause-ready g c =
    let n = c.args.relation.now.joint in
    can_readmit _ _ _ _ _ (join_readmits n _ _ _ _ c.known.ensures c.requires.relation c.known-2.ensures.in_range c.known-4.ensures c.in_ok-push_seat.ensures.system c.requires.seat.ready (subst (λ (m : Sizes). AreSizes m.seats) c.shape.ensures c.known-3.ensures.seats)
    (cc ((c.seats-k.ensures.count ∙ sym (length-map n.seats (seat_of n.catalogue))), c.states_of-states.ensures, c.lanes-lanes.ensures.value)))

pub returns-clause-repaired : goal.returns-clause-repaired
returns-clause-repaired g c =
    let n = c.args.relation.now.joint in
    let newcomer : Newcomer = record { k = c.seats-k.result; states = c.states_of-states.result; lanes = c.lanes-lanes.result } in
    readmitted _ _ _ _ _ _ _ _ (join_readmits n _ _ (seat_of n.catalogue c.args.seat) newcomer c.known.ensures c.requires.relation c.known-2.ensures.in_range c.known-4.ensures c.in_ok-push_seat.ensures.system c.requires.seat.ready (subst (λ (m : Sizes). AreSizes m.seats) c.shape.ensures c.known-3.ensures.seats)
    (cc ((c.seats-k.ensures.count ∙ sym (length-map n.seats (seat_of n.catalogue))), c.states_of-states.ensures, c.lanes-lanes.ensures.value)))
    c.replay_and_settle_on.ensures.settled
