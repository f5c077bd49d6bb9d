use Rattle.roman_relation.proofs.Common.{◌≡◌, ◌*◌, [], inr, ap, ◌∙◌, arith, Board}
use Rattle.roman_relation.proofs.Relating.{completed, room_for_pairs}
use Rattle.roman_relation.proofs.relation.Relation.afresh.Goals as goal

pub shape_to-requires-clause-pairs : goal.shape_to-requires-clause-pairs
shape_to-requires-clause-pairs g c =
    omega (arith, ap (λ m. c.rows.result * m) c.lanes-lanes.ensures.value, c.rows.ensures, room_for_pairs c.args.self.now.joint c.args.self.now.order c.known.ensures c.requires.caps)

pub returns-clause-complete : goal.returns-clause-complete
returns-clause-complete g c =
    let idle : c.settle_list.new.order.waiting ≡ [] =
    ap (λ (x : Board). x.waiting) c.settle_list.ensures.rest ∙ ap (λ (x : Board). x.waiting) c.shape_to.ensures.shaped ∙ c.requires.idle in
    completed _ _ c.known.ensures c.settle_list.ensures.settled idle (inr (c.settle_list.ensures.levels (ap (λ (x : Board). x.list) c.shape_to.ensures.shaped)))
