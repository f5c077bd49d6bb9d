use Rattle.roman_joint.proofs.Common.{length, get_or, ap, arith, system_of}
use Rattle.roman_joint.proofs.WalkLemmas.{goes_target}
use Rattle.roman_joint.proofs.joint.Joint.next_target.Goals as goal

pub returns : goal.returns
returns c =
    let s = system_of c.args.self.now in
    let w = c.args.walk.now in
    let targets = c.targets_before-targets.ensures in
    goes_target s c.known.ensures.system w c.requires.walk _ c.requires.seat c.requires.target
    (omega (arith, ap length targets.prev)) (ap (λ xs. get_or xs w.targets_taken 0) targets.prev) (targets.below w.targets_taken 0 c.if-taken-targets.false)
