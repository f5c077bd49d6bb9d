use Rattle.roman_repair.proofs.Fronts.{held_front, other_front}
use Rattle.roman_repair.proofs.lanes.first_alike.Goals as goal

pub returns-then-held-word-eq1 : goal.returns-then-held-word-eq1
returns-then-held-word-eq1 c = (held_front c.args.word c.args.held c.ranges.word.fits c.ranges.held.fits c.requires c.if-held-word-eq1.true).1 _ _ c.cut_at-front.ensures

pub returns : goal.returns
returns c = (other_front c.args.word c.args.held c.ranges.word.fits c.requires c.if-held-word-eq1.false).1 _ _ c.cut_at-front-2.ensures
