use Rattle.roman_repair.proofs.Fronts.{is_cut}
use Rattle.roman_repair.proofs.lanes.cut_at.Goals as goal

pub returns : goal.returns
returns c = is_cut c.args.word c.args.end c.ranges.word.fits c.requires.1
