use Rattle.roman_relation.proofs.Common.{system_of}
use Rattle.roman_relation.proofs.Relating.{listed_numbers, choices_counted}
use Rattle.roman_relation.proofs.relation.Relation.choices.Goals as goal

pub returns : goal.returns
returns c complete =
    let relation = c.args.self.now in
    choices_counted relation.joint relation.order c.choices.result c.known.ensures complete
    (listed_numbers (system_of relation.joint) relation.order c.requires.pairs c.known-2.ensures.in_range) c.choices.ensures
