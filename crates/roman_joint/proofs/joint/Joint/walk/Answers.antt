use Rattle.roman_joint.proofs.Common.{sym, ◌∙◌, length-map, system_of, seat_of}
use Rattle.roman_joint.proofs.WalkLemmas.{begins}
use Rattle.roman_joint.proofs.joint.Joint.walk.Goals as goal

pub returns : goal.returns
returns c =
    let n = c.args.self.now in
    let first = begins (system_of n) c.args.p2 c.seats.result c.known.ensures.system c.requires (c.seats.ensures.count ∙ sym (length-map n.seats (seat_of n.catalogue))) in
    record { walk = first.0; left = first.1 }
