use Rattle.roman_joint.proofs.Common.{get_or, ap, ◌∙◌, arith, get_or-map, length-map, bit_or, zip2_splat_left, is_on, on_or, on_not, bit_not, w64}
use Rattle.roman_joint.proofs.words.unmoved.Goals as goal

pub returns : goal.returns
returns g c =
    let lanes = bit_not w64 c.args.lanes in
    let moved = c.args.moved in
    rw (zip2_splat_left bit_or lanes g.row.N moved c.fits-moved.0) (record {
      long = length-map moved (bit_or lanes) ∙ c.fits-moved.0;
      each = λ i lane within l. ap (λ z. is_on z lane) (get_or-map (bit_or lanes) moved i 0 0 (omega (arith, c.fits-moved.0)))
          ∙ grind (arith, on_or lanes (get_or moved i 0) lane, on_not c.args.lanes lane c.ranges.lanes.fits l);
    })
