use Rattle.roman_radix.proofs.Common.{subst, arith, IsSizes}
use Rattle.roman_radix.proofs.Tables.{has_shrunk, IsSizes-without, same_sizes}
use Rattle.roman_radix.proofs.Shown.{shown}
use Rattle.roman_radix.proofs.shape.Shape.shrink.Goals as goal

pub lay_out-requires : goal.lay_out-requires
lay_out-requires c =
    let a = c.self.inside in
    let n = c.args.self.now in
    let fields = shown a n c.self.invariant c.self.view_is in
    let places = c.without_place-places.ensures in
    let table = has_shrunk a.sizes n.seats _ a.components c.args.k fields.places fields.components fields.sizes.few c.requires places.long places.below places.above in
    let sizes = subst IsSizes (same_sizes n.target a.target n.env a.env _ _ fields.target fields.env table.first) (IsSizes-without n c.args.k fields.sizes c.requires) in
    record { few = omega arith; padded = table.padded; sizes = sizes }
