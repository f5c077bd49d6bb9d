use Rattle.roman_cert.proofs.Common.{Board, is_marked, IsOrderOf, ap, arith, length, subst, sym, ℕ, ◌∙◌, ◌≡◌, arena_of, complete_order, length-below, count, sizes_of, listed_numbers, rests_on, system_of}
use Rattle.roman_cert.proofs.Slicing.{explanation_said, unrelated_explained, unrelated_wins}
use Rattle.roman_cert.proofs.slice.write_slice.Goals as goal

pub mark_slice-requires-clause-order : goal.mark_slice-requires-clause-order
mark_slice-requires-clause-order g c =
    let relation = c.args.relation.now in
    let s = system_of relation.joint in
    subst (IsOrderOf (arena_of relation.joint)) (sym c.stamp_all.ensures.same)
    (c.requires.relation.shaped.pairs, complete_order s relation.order.list c.known.ensures.system (listed_numbers s relation.order c.requires.relation.shaped.pairs c.known-2.ensures.in_range) c.requires.relation.complete.list)

pub mark_slice-requires-clause-pair : goal.mark_slice-requires-clause-pair
mark_slice-requires-clause-pair g c = omega (arith, c.requires.pair, length-below (count (sizes_of (system_of c.args.relation.now.joint))))

pub write_marked-requires : goal.write_marked-requires
write_marked-requires g c =
    let relation = c.args.relation.now in
    let s = system_of relation.joint in
    subst (IsOrderOf (arena_of relation.joint)) (sym (c.mark_slice.ensures.rest ∙ ap (λ (b : Board). record b { marks = c.mark_slice.new.order.marks }) c.stamp_all.ensures.same))
    (c.requires.relation.shaped.pairs, complete_order s relation.order.list c.known.ensures.system (listed_numbers s relation.order c.requires.relation.shaped.pairs c.known-2.ensures.in_range) c.requires.relation.complete.list)

pub returns-clause-text : goal.returns-clause-text
returns-clause-text g c =
    let relation = c.args.relation.now in
    let s = system_of relation.joint in
    let are = listed_numbers s relation.order c.requires.relation.shaped.pairs c.known-2.ensures.in_range in
    let same = ap (λ (b : Board). b.list) c.mark_slice.ensures.rest ∙ ap (λ (b : Board). b.list) c.stamp_all.ensures.same in
    let marked = subst (λ (b : Board). (q : ℕ) → is_marked c.mark_slice.new.order q ≡ rests_on (arena_of relation.joint) b.list (length b.list) c.args.p q) c.stamp_all.ensures.same c.mark_slice.ensures.marked in
    rw (← explanation_said relation.joint c.mark_slice.new.order relation.order.list c.args.p c.known.ensures are c.requires.pair same marked) c.write_marked.ensures.text

pub returns-clause-explained : goal.returns-clause-explained
returns-clause-explained g c =
    let relation = c.args.relation.now in
    unrelated_explained relation.joint relation.order.list c.args.p c.known.ensures c.requires.relation.complete.list c.requires.pair c.requires.unrelated

pub returns-clause-wins : goal.returns-clause-wins
returns-clause-wins g c =
    let relation = c.args.relation.now in
    unrelated_wins relation.joint relation.order.list c.args.p c.known.ensures c.requires.relation.complete.list c.requires.pair c.requires.unrelated
