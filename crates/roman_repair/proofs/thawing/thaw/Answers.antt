use Rattle.roman_repair.proofs.Waiting.{can_readmit, readmitted}
use Rattle.roman_repair.proofs.OtherSeats.{thaw_readmits}
use Rattle.roman_repair.proofs.thawing.thaw.Goals as goal

pub replay_and_settle_on-requires-clause-ready : goal.replay_and_settle_on-requires-clause-ready
replay_and_settle_on-requires-clause-ready g c =
    can_readmit _ _ _ _ _ (thaw_readmits c.args.relation.now.joint c.set_frozen.new.self _ c.args.k _ c.known.ensures c.requires.relation c.known-2.ensures.in_range c.requires.place c.set_frozen.ensures.system c.lanes-lanes.ensures.value)

pub returns-clause-repaired : goal.returns-clause-repaired
returns-clause-repaired g c =
    readmitted _ _ _ _ _ _ _ _ (thaw_readmits c.args.relation.now.joint c.set_frozen.new.self _ c.args.k _ c.known.ensures c.requires.relation c.known-2.ensures.in_range c.requires.place c.set_frozen.ensures.system c.lanes-lanes.ensures.value)
    c.replay_and_settle_on.ensures.settled
