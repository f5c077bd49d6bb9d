use Rattle.roman_repair.proofs.Common.{true, refl, sym, subst, Sys, numbered, system_of, lanes_in, IsShaped, Freeze, with_frozen}
use Rattle.roman_repair.proofs.Repairing.{relation_replays, repaired_from}
use Rattle.roman_repair.proofs.Waiting.{ready_there, whole_replay, whole_begun, shaped_turned}
use Rattle.roman_repair.proofs.freezing.freeze.Goals as goal

pub settle_on-requires : goal.settle_on-requires
settle_on-requires g c =
    let n = c.args.relation.now.joint in
    let replays = relation_replays (Freeze c.args.k) n _ c.known.ensures c.requires.relation c.known-2.ensures.in_range (ready_there _ _ c.requires.ready) in
    whole_begun _ _ c.set_frozen.new.self (with_frozen n.seats c.args.k true) _ c.args.relation.now.order replays tt c.requires.relation.caps c.set_frozen.ensures.seats c.set_frozen.ensures.system refl
    (subst (λ (t : Sys). IsShaped (numbered t) (lanes_in t) c.args.relation.now.order) (sym c.set_frozen.ensures.system) (shaped_turned (system_of n) c.args.k true _ c.requires.relation.shaped)) refl c.requires.relation.complete.idle

pub returns-clause-repaired : goal.returns-clause-repaired
returns-clause-repaired g c =
    let replays = relation_replays _ _ _ c.known.ensures c.requires.relation c.known-2.ensures.in_range (ready_there _ _ c.requires.ready) in
    repaired_from _ _ _ _ _ _ _ _ replays (whole_replay _ _ _ _ replays tt refl) c.set_frozen.ensures.system c.settle_on.ensures.settled
