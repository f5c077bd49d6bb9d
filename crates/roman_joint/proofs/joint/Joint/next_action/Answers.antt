use Rattle.roman_joint.proofs.Common.{◌≡◌, length, sym, ap, ◌∙◌, arith, length-map, system_of, seat_of}
use Rattle.roman_joint.proofs.WalkLemmas.{goes_action}
use Rattle.roman_joint.proofs.joint.Joint.next_action.Goals as goal

pub returns : goal.returns
returns c =
    let n = c.args.self.now in
    let actions : c.len.result ≡ n.environment.env.actions = rw c.environment.ensures at (c.len.ensures.len ∙ (ap length c.actions.ensures.names ∙ c.actions.ensures.count)) in
    goes_action (system_of n) c.known.ensures.system c.args.walk.now c.requires.walk c.seats-walk.result c.requires.seat c.requires.target c.requires.env c.requires.action
    (omega (arith, c.from.ensures)) (c.seats-walk.ensures.count ∙ sym (length-map n.seats (seat_of n.catalogue)))
