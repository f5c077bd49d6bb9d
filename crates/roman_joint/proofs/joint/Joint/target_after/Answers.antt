use Rattle.roman_joint.proofs.Common.{sizes_of, pair_at, system_of, allowed_in_range}
use Rattle.roman_joint.proofs.joint.Joint.target_after.Goals as goal

pub step-requires-clause-action : goal.step-requires-clause-action
step-requires-clause-action c =
    let s = system_of c.args.self.now in
    rw (c.target.ensures, c.known.ensures.target.1) (allowed_in_range s (pair_at (sizes_of s) c.args.p) c.args.a c.known.ensures.system c.requires.allowed)

pub returns-clause-action : goal.returns-clause-action
returns-clause-action c = let s = system_of c.args.self.now in allowed_in_range s (pair_at (sizes_of s) c.args.p) c.args.a c.known.ensures.system c.requires.allowed
