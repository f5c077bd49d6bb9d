use Rattle.roman_order.proofs.Lanes.{lowest_lane}
use Rattle.roman_order.proofs.flags.lowest.Goals as goal

pub returns : goal.returns
returns c = let (within, on, first) = lowest_lane c.args.word c.requires c.ranges.word.fits in record { within = within; on = on; first = first }
