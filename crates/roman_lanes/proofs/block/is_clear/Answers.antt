use Rattle.roman_lanes.proofs.Common.{◌-◌, arith, cases_lt}
use Rattle.roman_lanes.proofs.block.is_clear.Goals as goal

pub returns : goal.returns
returns c = λ yes i low high.
    let k = i - c.args.at in
    grind (arith, cases_lt, (c.load.ensures.each k), (c.load-2.ensures.each (k - 8)), (c.load-3.ensures.each (k - 16)), (c.load-4.ensures.each (k - 24)))
