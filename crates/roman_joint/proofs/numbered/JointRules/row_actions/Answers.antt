use Rattle.roman_joint.proofs.Common.{arith, system_of}
use Rattle.roman_joint.proofs.SplitLemmas.{joint_sizes}
use Rattle.roman_joint.proofs.TargetViewLemmas.{permitted_at}
use Rattle.roman_joint.proofs.BandLemmas.{in_band}
use Rattle.roman_joint.proofs.numbered.JointRules.row_actions.Goals as goal

pub returns-clause-row : goal.returns-clause-row
returns-clause-row c x lane ok l = grind (arith, permitted_at)

pub returns-clause-band : goal.returns-clause-band
returns-clause-band c y i lane ok in_rows l =
    let s = system_of c.args.self.now in
    let here = in_band _ _ _ _ (joint_sizes _ c.known.ensures) ok in_rows in
    permitted_at _ _ _ c.known.ensures.system (rw (here.looked.targets lane l, here.looked.envs lane l) ok.allowed)
