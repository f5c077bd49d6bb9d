use Rattle.roman_relation.proofs.Common.{system_of}
use Rattle.roman_relation.proofs.Relating.{listed_numbers, alive_related}
use Rattle.roman_relation.proofs.relation.Relation.related.Goals as goal

pub returns-clause-great : goal.returns-clause-great
returns-clause-great c complete =
    let relation = c.args.self.now in
    alive_related relation.joint relation.order c.args.p c.alive.result c.known.ensures complete
    (listed_numbers (system_of relation.joint) relation.order c.requires.shaped.pairs c.known-2.ensures.in_range) c.requires.pair c.alive.ensures
