use Rattle.roman_whatif.proofs.Lasting.{outlook_is}
use Rattle.roman_whatif.proofs.outlook.now.Goals as goal

pub returns-clause-outlook : goal.returns-clause-outlook
returns-clause-outlook c =
    let complete = c.requires.relation.complete in
    outlook_is c.args.relation.now.joint c.args.p c.related.result c.count.result c.choices.result c.known.ensures c.requires.pair (c.related.ensures.great complete) (c.count.ensures.related complete) (c.choices.ensures complete)
