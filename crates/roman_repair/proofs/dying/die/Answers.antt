use Rattle.roman_repair.proofs.Common.{sym, subst, remove, Sys, Die, numbered, system_of, lanes_in, IsShaped}
use Rattle.roman_repair.proofs.Repairing.{relation_replays, repaired_from}
use Rattle.roman_repair.proofs.DeathGroups.{seat_there}
use Rattle.roman_repair.proofs.DeathEntries.{left_shaped}
use Rattle.roman_repair.proofs.Waiting.{whole_replay, whole_begun}
use Rattle.roman_repair.proofs.dying.die.Goals as goal

pub settle_on-requires : goal.settle_on-requires
settle_on-requires g c =
    let n = c.args.relation.now.joint in
    let (seat, seated) = seat_there n c.args.k c.requires.seat in
    let replays = relation_replays (Die c.args.k seat) n _ c.known.ensures c.requires.relation c.known-2.ensures.in_range seated in
    whole_begun _ _ c.drop_seat.new.self (remove n.seats c.args.k) _ c.rename_list.new.order replays tt c.requires.relation.caps c.drop_seat.ensures.seats (c.drop_seat.ensures.system seat) (c.rename_list.ensures.list seat seated)
    (subst (λ (t : Sys). IsShaped (numbered t) (lanes_in t) c.rename_list.new.order) (sym (c.drop_seat.ensures.system seat)) (left_shaped (system_of n) c.args.k _ c.rename_list.ensures.pairs c.rename_list.ensures.lanes))
    c.rename_list.ensures.caps c.rename_list.ensures.idle

pub returns-clause-repaired : goal.returns-clause-repaired
returns-clause-repaired g c seat seated =
    let replays = relation_replays (Die c.args.k seat) _ _ c.known.ensures c.requires.relation c.known-2.ensures.in_range seated in
    repaired_from _ _ _ _ _ _ _ _ replays (whole_replay _ _ _ _ replays tt (c.rename_list.ensures.list seat seated)) (c.drop_seat.ensures.system seat) c.settle_on.ensures.settled
