use Rattle.roman_relation.proofs.Common.{◌≡◌, [], ap, ◌∙◌, Board, arena_of}
use Rattle.roman_relation.proofs.Relating.{completed, either_levels}
use Rattle.roman_relation.proofs.relation.Relation.settle.Goals as goal

pub returns-clause-complete : goal.returns-clause-complete
returns-clause-complete g c =
    let idle : c.settle_list.new.order.waiting ≡ [] = ap (λ (x : Board). x.waiting) c.settle_list.ensures.rest ∙ c.requires.idle in
    completed c.args.self.now.joint c.settle_list.new.order c.known.ensures c.settle_list.ensures.settled idle
    (either_levels (arena_of c.args.self.now.joint) c.args.self.now.order.list c.settle_list.new.order c.settle_list.ensures.levels c.settle_list.ensures.forgotten)
