use Rattle.roman_relation.proofs.Common.{arith, sizes_of, count, length-below, system_of}
use Rattle.roman_relation.proofs.Relating.{related_counted}
use Rattle.roman_relation.proofs.relation.Relation.count.Goals as goal

pub returns-clause-related : goal.returns-clause-related
returns-clause-related c complete =
    related_counted c.args.self.now.joint c.args.self.now.order c.unlisted.result c.known.ensures complete
    (omega (arith, c.unlisted.ensures.rest, c.requires.pairs, length-below (count (sizes_of (system_of c.args.self.now.joint)))))
