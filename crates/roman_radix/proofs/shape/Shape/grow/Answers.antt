use Rattle.roman_radix.proofs.Common.{subst, arith, IsSizes, count-grown}
use Rattle.roman_radix.proofs.Tables.{has_pushed, IsSizes-grown, same_sizes}
use Rattle.roman_radix.proofs.Shown.{shown}
use Rattle.roman_radix.proofs.shape.Shape.grow.Goals as goal

pub lay_out-requires-clause-sizes : goal.lay_out-requires-clause-sizes
lay_out-requires-clause-sizes c =
    let a = c.self.inside in
    let n = c.args.self.now in
    let fields = shown a n c.self.invariant c.self.view_is in
    let table = has_pushed a.sizes n.seats a.components c.args.size fields.places fields.components c.requires.few in
    subst IsSizes (same_sizes n.target a.target n.env a.env _ _ fields.target fields.env table.first) (grind (arith, IsSizes-grown, count-grown))
