use Rattle.roman_repair.proofs.Common.{◌++◌, ◌+◌, ◌*◌, sym, ap, ◌∙◌, subst, arith, count, system_of, lanes_in, Board, entries_in, entries_at, entries_from, Renames, some_lane}
use Rattle.roman_repair.proofs.DeathGroups.{group_in, row_in}
use Rattle.roman_repair.proofs.DeathEntries.{renames_both, renames_front}
use Rattle.roman_repair.proofs.Fronts.{group_entries}
use Rattle.roman_repair.proofs.Replayed.{no_entries}
use Rattle.roman_repair.proofs.dying.renaming.rename_row.Goals as goal

pub overflow_mul-first : goal.overflow_mul-first
overflow_mul-first c =
    let first = ap (λ m. c.args.batch.row * m) c.lanes.ensures.value in
    omega (arith, first, row_in (system_of c.args.joint.now) c.args.batch c.requires.within, ap count c.shape-shape.ensures, c.known.ensures.counted)

pub overflow_mul-i : goal.overflow_mul-i
overflow_mul-i c =
    let here = group_in c.args.joint.now _ c.args.batch _ _ _ _ _ _ _ c.requires.within c.shape-shape.ensures c.requires.ready.seat (ap (λ m. c.args.batch.row * m) c.lanes.ensures.value) c.group_width-width.ensures.group c.left.invariant.within c.first_group-i.ensures in
    omega (arith, here.inside, ap count c.shape-shape.ensures, c.known.ensures.counted)

pub overflow_add-first : goal.overflow_add-first
overflow_add-first c =
    let here = group_in c.args.joint.now _ c.args.batch _ _ _ _ _ _ _ c.requires.within c.shape-shape.ensures c.requires.ready.seat (ap (λ m. c.args.batch.row * m) c.lanes.ensures.value) c.group_width-width.ensures.group c.left.invariant.within c.first_group-i.ensures in
    omega (arith, here.inside, ap count c.shape-shape.ensures, c.known.ensures.counted)

pub rename_group-requires-clause-group : goal.rename_group-requires-clause-group
rename_group-requires-clause-group c =
    group_in c.args.joint.now _ c.args.batch _ _ _ _ _ _ _ c.requires.within c.shape-shape.ensures c.requires.ready.seat (ap (λ m. c.args.batch.row * m) c.lanes.ensures.value) c.group_width-width.ensures.group c.left.invariant.within c.first_group-i.ensures

pub left-preserved : goal.left-preserved
left-preserved c =
    let n = lanes_in (system_of c.args.joint.now) in
    let e = c.args.batch in
    let w = c.group_width-width.result in
    let (i, group, rest) = c.first_group-i.result in
    let parts = group_entries n e.row c.left.left w i group rest e.reason c.first_group-i.ensures ∙ ap (λ m. entries_from (e.row * m + i * w) group e.reason ++ entries_in n e.row rest e.reason) (sym c.lanes.ensures.value) in
    record {
      renamed = renames_both _ _ _ _ _ _ _ _ c.left.invariant.renamed (renames_front _ _ _ _ _ _ _ parts c.rename_group.ensures.list);
      rest = c.rename_group.ensures.rest ∙ ap (λ (b : Board). record b { list = c.rename_group.new.order.list }) c.left.invariant.rest;
      within = λ lane on. c.left.invariant.within lane (c.first_group-i.ensures.in_rest lane on);
      some = λ ne. some_lane rest ne c.first_group-i.ensures.fits;
    }

pub returns-clause-list : goal.returns-clause-list
returns-clause-list c =
    let n = lanes_in (system_of c.args.joint.now) in
    let empty = ap (λ w. entries_in n c.args.batch.row w c.args.batch.reason) c.left-test.false ∙ no_entries n c.args.batch.row c.args.batch.reason in
    subst (λ M. Renames (system_of c.args.joint.now) c.args.leaver.k (entries_at n c.args.batch) M c.args.order.now.list c.left.order.list) empty c.left.invariant.renamed
