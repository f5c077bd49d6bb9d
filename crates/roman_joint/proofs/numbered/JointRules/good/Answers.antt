use Rattle.roman_joint.proofs.Common.{is_beaten, numbered, system_of}
use Rattle.roman_joint.proofs.ArenaFacts.{joint_numbered}
use Rattle.roman_joint.proofs.AllowedLemmas.{unopened}
use Rattle.roman_joint.proofs.GoodLemmas.{none_served}
use Rattle.roman_joint.proofs.numbered.JointRules.good.Goals as goal

pub returns-in_default : goal.returns-in_default
returns-in_default c x gone ok rows =
    let n = c.args.self.now in
    none_served _ x (λ p. is_beaten (numbered (system_of n)) gone p c.args.a c.args.k) (λ lane l. unopened _ _ _ _ _ lane gone (joint_numbered n c.known.ensures) ok l c.in_default.ensures)

pub returns : goal.returns
returns c x gone ok rows = c.good_on.ensures.each x gone ok rows (c.alive_on-alive.ensures gone rows)
