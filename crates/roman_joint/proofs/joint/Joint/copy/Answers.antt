use Rattle.roman_joint.proofs.Common.{named_sys_in, ◌-◌, ◌∙◌}
use Rattle.roman_joint.proofs.SeatChanges.{is_joint}
use Rattle.roman_joint.proofs.joint.Joint.copy.Goals as goal

pub moves_of-requires-clause-seats : goal.moves_of-requires-clause-seats
moves_of-requires-clause-seats c =
    rw (c.deref.ensures.value, c.deref-2.ensures.value) (record { limit = c.self.inside.limit; known = c.self.invariant.known; sizes_are = c.self.invariant.shape })

pub invariant_of-result : goal.invariant_of-result
invariant_of-result c =
    let old = c.self.invariant in
    let environment = c.in_ok-copy-2.ensures.same in
    let catalogue = c.in_ok-copy_catalogue.ensures ∙ c.deref-5.ensures.value in
    let target = c.in_ok-copy.ensures.same in
    let seats = c.in_ok-copy_seats.ensures.items ∙ c.deref-4.ensures.value in
    is_joint _ (named_sys_in c.self.inside) (λ i. record { environment = environment i; catalogue = catalogue i; target = target i; seats = seats i; limit = c.self.inside.limit }) (record {
      known = old.known;
      shape = old.shape;
      rows = old.rows;
      moves = rw (c.deref.ensures.value, c.deref-2.ensures.value) at c.in_ok-moves_of.ensures;
      target_views = rw (environment, target, c.in_ok-from_slice.ensures.items ∙ c.deref-3.ensures.value) old.target_views;
      room = c.in_ok-copy_seats.ensures.room;
    })
