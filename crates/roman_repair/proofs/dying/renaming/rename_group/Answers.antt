use Rattle.roman_repair.proofs.Common.{[], bit_and, ◌%◌, ◌^◌, ◌*◌, ◌/◌, ◌++◌, not, slice_index, sym, ap, ◌∙◌, subst, arith, Sizes, sizes_without, count, pair_at, number, HasLanes, system_of, has_entry, entries_in, Board, entries_from, Renames, without}
use Rattle.roman_repair.proofs.DeathEntries.{group_stays, group_left, lost_within, left_row}
use Rattle.roman_repair.proofs.dying.renaming.rename_group.Goals as goal
use Rattle.roman_repair.proofs.dying.renaming.rename_group.Goals.{After-words}

pub returns-then-not-may_go-clause-list : goal.returns-then-not-may_go-clause-list
returns-then-not-may_go-clause-list c = group_stays _ _ _ _ _ _ c.requires.group (λ seat seated. sym (c.may_go.ensures seat seated) ∙ c.if-not-may_go.true)

pub without-left-requires-clause-pair : goal.without-left-requires-clause-pair
without-left-requires-clause-pair c = omega (arith, c.requires.group.inside, ap count c.shape-shape.ensures)

-- the word of the row
row_word : (c : After-words) → HasLanes c.args.order.now.lanes (c.without-left.result / c.args.leaver.lanes) (λ p. not (has_entry c.args.order.now.list p)) (slice_index c.words.result.now (c.without-left.result / c.args.leaver.lanes))
row_word c = c.words.ensures.alive.each _ (grind (arith, left_row))

pub push_on-requires-clause-within : goal.push_on-requires-clause-within
push_on-requires-clause-within c lane on = (lost_within _ _ _ _ lane _ (row_word (goal.at.push_on-requires-clause-within c).After-words) on).0

pub push_on-requires-clause-alive : goal.push_on-requires-clause-alive
push_on-requires-clause-alive c lane on = (lost_within _ _ _ _ lane _ (row_word (goal.at.push_on-requires-clause-alive c).After-words) on).1

pub returns-clause-list : goal.returns-clause-list
returns-clause-list c =
    let s = system_of c.args.joint.now in
    let L = c.args.order.now.list in
    let left = c.without-left.result in
    let alive = slice_index c.words.result.now (left / c.args.leaver.lanes) in
    let lost = bit_and (c.args.word * 2 ^ (left % c.args.leaver.lanes) % 2 ^ 64) alive in
    let (same, wide) = c.requires.ready.lanes in
    subst (Renames s c.args.leaver.k (entries_from c.args.first c.args.word c.args.reason) [] L) (sym (ap (λ (b : Board). b.list) c.push_on.ensures ∙ ap (λ m. L ++ entries_in m (left / c.args.leaver.lanes) lost c.args.reason) (sym same)))
    (group_left s _ c.args.first c.args.word left c.args.leaver.lanes alive c.args.reason L c.requires.group (λ seat seated. sym (c.may_go.ensures seat seated) ∙ c.if-not-may_go.false)
    (c.without-left.ensures.number ∙ ap (λ (m : Sizes). number (sizes_without c.args.leaver.k m) (without c.args.leaver.k (pair_at m c.args.first))) c.shape-shape.ensures)
    (same ∙ wide) (rw same c.known.ensures.lanes) (subst (λ m. HasLanes m (left / c.args.leaver.lanes) (λ p. not (has_entry L p)) alive) (sym same) (row_word (goal.at.returns-clause-list c).After-words)))
