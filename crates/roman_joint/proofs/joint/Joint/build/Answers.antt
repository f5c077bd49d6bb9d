use Rattle.roman_joint.proofs.Common.{IsNamedSys, named_parts, List, ap, arith, refl, ◌-◌, ◌∙◌}
use Rattle.roman_joint.specs.declared.seat.Seat.{Seat}
use Rattle.roman_joint.proofs.SeatChanges.{is_joint}
use Rattle.roman_joint.proofs.joint.Joint.build.Goals as goal
use Rattle.roman_joint.proofs.joint.Joint.build.Goals.{In-Some}

-- the system that is built
known : (c : In-Some) → IsNamedSys (named_parts c.args.environment c.deref.result.now c.args.target c.deref-2.result.now c.args.limit)
known c = rw (c.deref.ensures.value, c.deref-2.ensures.value) (record {
  system = rw (c.deref.ensures.value, c.deref-2.ensures.value) at c.in-Some.ensures.system;
  fits = rw (c.deref.ensures.value, c.deref-2.ensures.value) at (c.in-Some.ensures.fits.0 refl);
  limit = c.requires.limit;
  behaviours = λ k d l. omega (arith, c.requires.behaviours k d l, c.args.catalogue.ok.0);
  names = c.requires.names;
  catalogue = c.requires.catalogue;
  target = c.requires.target;
})

pub invariant_of-result : goal.invariant_of-result
invariant_of-result c =
    let n = λ (seats : List Seat). named_parts c.args.environment c.args.catalogue.items c.args.target seats c.args.limit in
    let shape = rw (c.deref.ensures.value, c.deref-2.ensures.value) at c.in-Some.ensures.shape in
    is_joint _ (n c.args.seats.items) (ap n (c.in-Ok.ensures.places ∙ c.deref-2.ensures.value)) (record {
      known = rw (c.deref.ensures.value, c.deref-2.ensures.value) at (known (goal.at.invariant_of-result c).In-Some);
      shape = shape;
      rows = rw shape at c.in-Ok.ensures.rows;
      moves = rw (c.deref.ensures.value, c.deref-2.ensures.value) at c.in-Ok.ensures.moves;
      target_views = c.in-Ok.ensures.target_views;
      room = c.in-Ok.ensures.room;
    })

pub returns-clause-limit : goal.returns-clause-limit
returns-clause-limit c =
    let fits = c.in-Some.ensures.fits.0 refl in
    (λ e. absurd (cc), λ more. absurd (omega (arith, rw (c.deref.ensures.value, c.deref-2.ensures.value) at fits)))

pub tables_of-requires-clause-seats : goal.tables_of-requires-clause-seats
tables_of-requires-clause-seats c = record { limit = c.args.limit; known = known (goal.at.tables_of-requires-clause-seats c).In-Some; sizes_are = c.in-Some.ensures.shape }
