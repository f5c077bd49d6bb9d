use Rattle.roman_lanes.proofs.Common.{◌==◌, ◌∙◌, ap, arith, eqb, count_ones, w32, bitmask_splat, length-chunk, ones-mask_l, count_by-le-length, chunk}
use Rattle.roman_lanes.proofs.block.equal_in.Goals as goal

pub returns-clause-counted : goal.returns-clause-counted
returns-clause-counted c =
    let lanes = chunk c.args.at 16 c.args.values.now in
    ap count_ones (bitmask_splat w32 eqb lanes 16 c.args.value (length-chunk c.args.at 16 c.args.values.now c.requires) (omega arith))
    ∙ ones-mask_l (λ x. x == c.args.value) lanes

pub returns-clause-bound : goal.returns-clause-bound
returns-clause-bound c = grind (arith, (returns-clause-counted c), count_by-le-length, length-chunk)
