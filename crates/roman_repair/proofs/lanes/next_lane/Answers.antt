use Rattle.roman_repair.proofs.Common.{◌≡◌, ◌+◌, ◌-◌, ◌/◌, ◌^◌, ◌<◌, ◌∙◌, arith, on_lowered, trailing_zeros, w64, shr_le}
use Rattle.roman_repair.proofs.Fronts.{first_lane}
use Rattle.roman_repair.proofs.lanes.next_lane.Goals as goal

pub returns-clause-off : goal.returns-clause-off
returns-clause-off c lane past less =
    let first = first_lane (c.args.word / 2 ^ c.args.from) (omega (arith, shr_le c.args.word c.args.from, c.ranges.word.fits)) in
    grind (arith, (first.before (lane - c.args.from)), (on_lowered c.args.word c.args.from (lane - c.args.from)))

pub returns-clause-on : goal.returns-clause-on
returns-clause-on c less =
    let first = first_lane (c.args.word / 2 ^ c.args.from) (omega (arith, shr_le c.args.word c.args.from, c.ranges.word.fits)) in
    grind (arith, first.on, (on_lowered c.args.word c.args.from (trailing_zeros w64 (c.args.word / 2 ^ c.args.from))))
