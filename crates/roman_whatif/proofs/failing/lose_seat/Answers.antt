use Rattle.roman_whatif.proofs.Common.{◌<◌, false, length, remove, sym, ap, ◌∙◌, subst, length-map, Seat, count, seat_of, system_of, still}
use Rattle.roman_whatif.proofs.Lasting.{parts_with_seats, left_dying}
use Rattle.roman_whatif.proofs.failing.lose_seat.Goals as goal

pub returns : goal.returns
returns g c =
    let old = c.args.relation.now.joint in
    let new = c.afresh.new.self in
    let s = system_of old in
    let any : Seat = record { beh = still; frozen = false; rests = false } in
    let within : c.args.k < length s.seats = subst (λ n. c.args.k < n) (sym (length-map old.seats (seat_of old.catalogue))) c.requires.place.1 in
    left_dying old new.joint new.order c.args.p c.args.k c.without-left.result any c.shape.result.now
    (record { complete = c.afresh.ensures.complete; shaped = c.afresh.ensures.shaped; caps = c.afresh.ensures.caps })
    (parts_with_seats new.joint old (remove old.seats c.args.k) (c.afresh.ensures.joint ∙ c.drop_seat.ensures.seats)) (ap system_of c.afresh.ensures.joint ∙ c.drop_seat.ensures.system any)
    c.shape.ensures (subst (λ m. c.args.p < count m) (sym c.shape.ensures) c.requires.place.0) (subst (λ m. c.args.k < length m.seats) (sym c.shape.ensures) (subst (λ n. c.args.k < n) (sym (length-map s.seats _)) within)) c.without-left.ensures.number c.without-left.ensures.below
