use Rattle.roman_joint.proofs.Common.{Die, after, IsNamedSys, system_of, ap, arith, ◌-◌, ◌∙◌, ◌≡◌, left, named_sys_in, remove, sizes_of, sizes_without}
use Rattle.roman_joint.proofs.SeatChanges.{is_joint, with_seats, gone_known, gone_sizes, gone_system}
use Rattle.roman_joint.proofs.joint.Joint.drop_seat.Goals as goal

pub invariant_of-self : goal.invariant_of-self
invariant_of-self c =
    let n = named_sys_in c.self.inside in
    let sizes : c.shrink-self-inside.result ≡ sizes_of (system_of (with_seats n (remove n.seats c.args.k))) = c.shrink-self-inside.ensures ∙ (ap (sizes_without c.args.k) c.self.invariant.shape ∙ gone_sizes n c.args.k) in
    is_joint _ (with_seats n (remove n.seats c.args.k)) (ap (with_seats n) c.remove-seat.ensures.items) (record {
      known = grind (arith, gone_known);
      shape = sizes;
      rows = rw sizes at c.layout_of-self-inside.ensures;
      moves = rw (c.deref.ensures.value, c.deref-2.ensures.value, c.remove-seat.ensures.items) at c.fill.ensures;
      target_views = c.self.invariant.target_views;
      room = omega (arith, c.remove-seat.ensures.capacity, c.self.invariant.room);
    })

pub returns-clause-system : goal.returns-clause-system
returns-clause-system c = λ seat.
    let n = named_sys_in c.self.inside in
    ap (λ xs. system_of (with_seats n xs)) c.remove-seat.ensures.items ∙ (gone_system n c.args.k seat ∙ ap (λ m. after (Die c.args.k seat) (system_of m)) c.self.view_is)

pub fill-requires-clause-seats : goal.fill-requires-clause-seats
fill-requires-clause-seats c =
    let n = named_sys_in c.self.inside in
    let left : IsNamedSys (with_seats n (remove n.seats c.args.k)) = grind (arith, gone_known) in
    let sizes : c.shrink-self-inside.result ≡ sizes_of (system_of (with_seats n (remove n.seats c.args.k))) = c.shrink-self-inside.ensures ∙ (ap (sizes_without c.args.k) c.self.invariant.shape ∙ gone_sizes n c.args.k) in
    rw (c.deref.ensures.value, c.deref-2.ensures.value, c.remove-seat.ensures.items) (record { limit = n.limit; known = left; sizes_are = sizes })
