use Rattle.roman_joint.proofs.Common.{ap, arith, ◌*◌, ◌+◌, ◌-◌, ◌≡◌, row_at, system_of}
use Rattle.roman_joint.proofs.MarkLemmas.{marked_on, marks_above}
use Rattle.roman_joint.proofs.marks.mark_target.Goals as goal

pub loop-k-preserved : goal.loop-k-preserved
loop-k-preserved g c =
    let s = system_of c.args.by.now.joint.now in
    let e = c.args.by.now.env in
    let t = c.args.t in
    let laid = c.layout-rows.ensures.rows in
    let base : c.times.result + c.times-2.result + c.from.result ≡ row_at s c.args.by.now.row.now e t =
    omega (arith, c.times.ensures.value, c.times-2.ensures.value, c.from.ensures, ap (λ m. t * m) laid.target, ap (λ m. e * m) laid.env) in
    let seat = rw base at c.mark_seat.ensures in
    record { own = marked_on _ _ _ seat.grows c.loop-k.invariant.own; seats = marks_above _ _ c.loop-k.k _ _ _ _ _ _ c.loop-k.invariant.seats seat }
