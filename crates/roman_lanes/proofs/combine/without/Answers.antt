use Rattle.roman_lanes.proofs.Common.{map, bit_and, Fits, arith, bit_not, w64, get_or-map, length-map, length-zip2, get_or-zip2, Each1-get_or}
use Rattle.roman_lanes.proofs.RowBits.{on_without}
use Rattle.roman_lanes.proofs.combine.without.Goals as goal

pub returns-clause-long : goal.returns-clause-long
returns-clause-long g c = grind (arith, length-map, length-zip2)

pub returns-clause-each : goal.returns-clause-each
returns-clause-each g c i lane within =
    grind (arith, length-map, on_without, (get_or-map (bit_not w64) c.args.other i 0 0), (get_or-zip2 bit_and c.args.words (map (bit_not w64) c.args.other) i 0 0 0), (Each1-get_or (Fits w64) c.args.words i 0), (Each1-get_or (Fits w64) c.args.other i 0))
