use Rattle.roman_repair.proofs.Common.{◌≡◌, ◌+◌, ◌*◌, ◌/◌, ◌<◌, ◌≤◌, arith, trailing_zeros, w64, div-mul-le_self, lt-div-mul-add}
use Rattle.roman_repair.proofs.Fronts.{first_group_is, first_low}
use Rattle.roman_repair.proofs.lanes.first_group.Goals as goal

pub cut_at-front-requires : goal.cut_at-front-requires
cut_at-front-requires c = omega (arith, c.min.ensures, c.requires.width)

pub overflow_shr-result : goal.overflow_shr-result
overflow_shr-result c = grind (arith, first_low, div-mul-le_self)

pub returns : goal.returns
returns c =
    let t = trailing_zeros w64 c.args.word in
    let below = lt-div-mul-add {a = t} {b = c.args.width} c.requires.width.0 in
    let begun = div-mul-le_self t c.args.width in
    first_group_is c.args.word c.args.width (t / c.args.width) _ _ c.min.result c.ranges.word.fits c.requires.some (omega (arith, begun)) (omega (arith, below)) (omega (arith, c.min.ensures)) (omega (arith, c.min.ensures))
    (omega (arith, c.min.ensures, below, first_low c.args.word c.ranges.word.fits c.requires.some)) c.cut_at-front.ensures
