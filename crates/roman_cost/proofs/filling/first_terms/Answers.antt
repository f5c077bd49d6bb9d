use Rattle.roman_cost.proofs.Common.{get_or, subst, IsIn, in_at}
use Rattle.roman_cost.proofs.filling.first_terms.Goals as goal

pub push_pair-requires-clause-pair : goal.push_pair-requires-clause-pair
push_pair-requires-clause-pair c = subst (IsIn (get_or c.args.pairs.now c.loop-i.i 0)) c.requires.pairs (in_at c.args.pairs.now c.loop-i.i 0 c.loop-i-test.true)
