use Rattle.roman_joint.proofs.Common.{system_of}
use Rattle.roman_joint.proofs.BandLemmas.{bands_counted}
use Rattle.roman_joint.proofs.numbered.JointRules.bands.Goals as goal

pub returns : goal.returns
returns c = bands_counted (system_of c.args.self.now) _ c.layout-rows.ensures.rows
