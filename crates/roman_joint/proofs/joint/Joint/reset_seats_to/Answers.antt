use Rattle.roman_joint.proofs.Common.{HasSameParts, HoldsMoves, IsNamedSys, NamedSys, seat_of, system_of, ap, arith, length, subst, sym, ◌-◌, ◌∙◌, ◌≡◌, length-map, named_sys_in, sizes_of}
use Rattle.roman_joint.proofs.SeatChanges.{is_joint, with_seats, with_the_seats}
use Rattle.roman_joint.proofs.joint.Joint.reset_seats_to.Goals as goal
use Rattle.roman_joint.proofs.joint.Joint.reset_seats_to.Goals.{After-put_seats}

pub put_seats-requires : goal.put_seats-requires
put_seats-requires c =
    let n = named_sys_in c.from.inside in
    omega (arith, ap length c.deref.ensures.value, length-map n.seats (seat_of n.catalogue), c.from.invariant.known.system.few, c.self.invariant.room)

-- with the services of the other joint, this joint equals it
same : (c : After-put_seats) → with_seats (named_sys_in c.self.inside) c.put_seats.new.places.items ≡ named_sys_in c.from.inside
same c =
    with_the_seats (named_sys_in c.self.inside) (named_sys_in c.from.inside) c.put_seats.new.places.items (subst (λ (m : NamedSys). HasSameParts m (named_sys_in c.from.inside)) (sym c.self.view_is) (subst (HasSameParts c.args.self.now) (sym c.from.view_is) c.requires))
    (c.put_seats.ensures.items ∙ c.deref.ensures.value)

pub fill-requires-clause-seats : goal.fill-requires-clause-seats
fill-requires-clause-seats c =
    let n = named_sys_in c.from.inside in
    let is = same (goal.at.fill-requires-clause-seats c).After-put_seats in
    rw (c.deref-2.ensures.value, c.deref-3.ensures.value) (record {
      limit = c.self.inside.limit;
      known = subst IsNamedSys (sym is) c.from.invariant.known;
      sizes_are = c.from.invariant.shape ∙ ap (λ (m : NamedSys). sizes_of (system_of m)) (sym is);
    })

pub invariant_of-self : goal.invariant_of-self
invariant_of-self c =
    let is = same (goal.at.invariant_of-self c).After-put_seats in
    is_joint _ (named_sys_in c.from.inside) is (record {
      known = c.from.invariant.known;
      shape = c.from.invariant.shape;
      rows = c.from.invariant.rows;
      moves = subst (λ (m : NamedSys). HoldsMoves (system_of m) c.fill.new.self) is (rw (c.deref-2.ensures.value, c.deref-3.ensures.value) at c.fill.ensures);
      target_views = c.self.invariant.target_views;
      room = omega (arith, c.put_seats.ensures.room, c.self.invariant.room);
    })

pub returns : goal.returns
returns c = same (goal.at.returns c).After-put_seats ∙ c.from.view_is
