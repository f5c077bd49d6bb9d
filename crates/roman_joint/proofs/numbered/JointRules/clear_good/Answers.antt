use Rattle.roman_joint.proofs.Common.{◌+◌, ◌*◌, ◌∙◌, arith, is_beaten, numbered, system_of, band_in}
use Rattle.roman_joint.proofs.ArenaFacts.{joint_numbered}
use Rattle.roman_joint.proofs.SplitLemmas.{joint_sizes}
use Rattle.roman_joint.proofs.AllowedLemmas.{unopened}
use Rattle.roman_joint.proofs.BandLemmas.{row_in, in_band, keeps_all}
use Rattle.roman_joint.proofs.numbered.JointRules.clear_good.Goals as goal

-- an action that isn't allowed at the band's pairs
pub returns-in_default-clause-left : goal.returns-in_default-clause-left
returns-in_default-clause-left c y gone ok rows =
    let n = c.args.self.now in
    let s = system_of n in
    let x = y * band_in s in
    keeps_all s x (band_in s) (λ p. is_beaten (numbered s) gone p c.args.a c.args.k) c.args.left.now (λ i lane l m.
    unopened s (row_in s (x + i) c.args.row.now) (x + i) c.args.a c.args.k lane gone (joint_numbered n c.known.ensures) (in_band s y i c.args.row.now (joint_sizes n c.known.ensures) ok l).looked m c.in_default.ensures)

pub returns-clause-left : goal.returns-clause-left
returns-clause-left c y gone ok rows = c.clear_seat.ensures.left y gone ok rows (c.alive_each.ensures.alive gone rows)
