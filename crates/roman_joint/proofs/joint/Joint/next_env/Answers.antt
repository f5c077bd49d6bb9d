use Rattle.roman_joint.proofs.Common.{length, get_or, sym, ap, ◌∙◌, arith, length-map, system_of, seat_of}
use Rattle.roman_joint.proofs.WalkLemmas.{goes_env}
use Rattle.roman_joint.proofs.joint.Joint.next_env.Goals as goal

pub returns : goal.returns
returns c =
    let n = c.args.self.now in
    let s = system_of n in
    let w = c.args.walk.now in
    let envs = c.envs_before-envs.ensures in
    goes_env s c.known.ensures.system w c.requires.walk _ c.seats-walk.result c.requires.seat c.requires.target c.requires.env
    (omega (arith, ap length envs.prev)) (ap (λ xs. get_or xs w.envs_taken 0) envs.prev) (envs.below w.envs_taken 0 c.if-taken-envs.false)
    (c.seats-walk.ensures.count ∙ sym (length-map n.seats (seat_of n.catalogue)))
