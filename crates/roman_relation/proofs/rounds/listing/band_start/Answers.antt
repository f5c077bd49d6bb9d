use Rattle.roman_relation.proofs.Common.{◌*◌, ap, arith, mul-le}
use Rattle.roman_relation.proofs.Lanes.{shaped_pairs}
use Rattle.roman_relation.proofs.rounds.listing.band_start.Goals as goal

pub overflow_mul-result : goal.overflow_mul-result
overflow_mul-result g c =
    let b = c.args.order.now in
    let rows = mul-le b.rows 1 b.rows (g.J.Rules.lanes c.args.joint.now) (omega arith) c.known.ensures.lanes.0 in
    omega (arith, rows, shaped_pairs _ _ b c.requires.shaped, c.known.ensures.numbered.few_nodes, c.requires.band, ap (λ m. c.args.y * m) c.band.ensures.value)
