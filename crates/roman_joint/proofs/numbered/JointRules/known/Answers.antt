use Rattle.roman_joint.proofs.Common.{◌*◌, ◌/◌, ◌∙◌, sizes_of, count, row_sizes, system_of, band_in}
use Rattle.roman_joint.proofs.BandLemmas.{bands_are}
use Rattle.roman_joint.proofs.numbered.JointRules.known.Goals as goal

pub returns-clause-bands : goal.returns-clause-bands
returns-clause-bands c =
    let s = system_of c.args.self.now in
    (count (row_sizes (sizes_of s)) / band_in s, bands_are s c.layout-rows.ensures.rows.ok)
