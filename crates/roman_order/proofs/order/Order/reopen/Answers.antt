use Rattle.roman_order.proofs.Common.{vec_capacity, ap, ◌∙◌, rules, length-replicate}
use Rattle.roman_order.proofs.Tables.{list_waits, blank_sound}
use Rattle.roman_order.proofs.order.Order.reopen.Goals as goal

pub invariant_of-self : goal.invariant_of-self
invariant_of-self c =
    let batches = ap (λ v. vec_capacity v) c.swap.ensures.x_after in
    let waiting = ap (λ v. vec_capacity v) c.swap.ensures.y_after in
    blank_sound _ (search (rules, length-replicate)) (rw c.swap.ensures.y_after (list_waits c.self.inside c.self.invariant)) (ap (λ v. v.items) c.swap.ensures.x_after ∙ c.clear.ensures.items) c.clear-2.ensures.items (search rules) c.clear-3.ensures.items c.refill.ensures.items
