use Rattle.roman_joint.proofs.Common.{IsNamedSys, system_of, [], ap, arith, refl, ◌++◌, ◌+◌, ◌-◌, ◌∷◌, ◌≡◌, named_sys_in, sizes_of}
use Rattle.roman_joint.proofs.SeatChanges.{is_joint, with_seats}
use Rattle.roman_joint.proofs.joint.Joint.push_seat.Goals as goal
use Rattle.roman_joint.proofs.joint.Joint.push_seat.Goals.{In-Some}

-- the system with the service
joined : (c : In-Some) → IsNamedSys (with_seats (named_sys_in c.self.inside) ((named_sys_in c.self.inside).seats ++ c.args.seat ∷ []))
joined c = rw (← c.self.view_is) at (c.in-Some.ensures.known refl)

sizes : (c : In-Some) → c.in-Some.shape ≡ sizes_of (system_of (with_seats (named_sys_in c.self.inside) ((named_sys_in c.self.inside).seats ++ c.args.seat ∷ [])))
sizes c = rw (← c.self.view_is) at c.in-Some.ensures.shape

pub fill-requires-clause-seats : goal.fill-requires-clause-seats
fill-requires-clause-seats c =
    let at = (goal.at.fill-requires-clause-seats c).In-Some in
    rw (c.deref.ensures.value, c.deref-2.ensures.value, c.push_reserved.ensures.items) (record { limit = c.self.inside.limit; known = joined at; sizes_are = sizes at })

pub invariant_of-self : goal.invariant_of-self
invariant_of-self c =
    let n = named_sys_in c.self.inside in
    let at = (goal.at.invariant_of-self c).In-Some in
    is_joint _ (with_seats n (n.seats ++ c.args.seat ∷ [])) (ap (with_seats n) c.push_reserved.ensures.items) (record {
      known = joined at;
      shape = sizes at;
      rows = rw (sizes at) at c.layout_of-self-inside.ensures;
      moves = rw (c.deref.ensures.value, c.deref-2.ensures.value, c.push_reserved.ensures.items) at c.fill.ensures;
      target_views = c.self.invariant.target_views;
      room = omega (arith, c.push_reserved.ensures.capacity, c.self.invariant.room);
    })
