use Rattle.roman_repair.proofs.Common.{◌+◌, ◌≤◌, drop, sym, ap, ap₂, subst, NamedSys, arena_of, fall, Relation}
use Rattle.roman_repair.proofs.settling.settle_on.Goals as goal

pub returns-clause-cost : goal.returns-clause-cost
returns-clause-cost g c =
    subst (λ m. c.settle.new.steps ≤ m)
    (ap₂ (λ (n : NamedSys) m. c.args.steps.now + fall (arena_of n) (drop m c.settle.new.self.order.list)) (sym (ap (λ (x : Relation). x.joint) c.settle.ensures.rest)) (sym c.len-kept.ensures.value))
    c.settle.ensures.cost
