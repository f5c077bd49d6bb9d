use Rattle.roman_joint.specs.NamedSys.{seat_of}
use Rattle.roman_repair_laws.proofs.CallLemmas.{joined_most}
use Rattle.roman_repair_laws.proofs.join_keeps_the_most.Goals as goal

pub returns : goal.returns
returns g c = record {
  kept = joined_most c.repairs_keep_the_most.ensures.replayed (seat_of c.args.relation.now.joint.catalogue c.args.seat) _ _ _ c.known.ensures c.requires.relation c.known-2.ensures c.in_ok-tally.ensures.repaired;
}
