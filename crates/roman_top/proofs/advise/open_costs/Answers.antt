use Rattle.roman_opening.specs.declared.status.Status.TheVariants as status
use Rattle.roman_top.proofs.Common.{List, ℕ, EndsSaying, OnCosts, Status, costs_of, list_of_rule, refusal_line, refusal_of, IfSome_then, same_outputs, opens_fault, opens_none}
use Rattle.roman_library.specs.declared.refusal.Part.TheVariants as part
use Rattle.roman_parts.specs.declared.error.PartError.TheVariants as part_error
use Rattle.roman_top.proofs.OpeningLemmas.{early_from}
use Rattle.roman_top.proofs.advise.open_costs.Goals as goal

pub returns-in-Ok-clause-opens : goal.returns-in-Ok-clause-opens
returns-in-Ok-clause-opens g c = record { holds = c.in-Ok.ensures.costs; same = same_outputs _ _ _ _ _ _ c.read_costs.ensures.texts c.in-Ok.ensures.cause }

pub returns-in-Err-Fault-clause-opens : goal.returns-in-Err-Fault-clause-opens
returns-in-Err-Fault-clause-opens g c = opens_fault _ _ _ _ _ _ _ c.read_costs.ensures.texts (rw c.in-Err-Fault.field-0-is at c.in-Err-Fault.ensures.cause)

pub returns-in-Err-Refused-clause-opens : goal.returns-in-Err-Refused-clause-opens
returns-in-Err-Refused-clause-opens g c =
    let r = c.in-Err-Refused in
    let same = same_outputs _ _ _ _ (g.O.Sink.written c.args.out.now) (g.O.Sink.faults c.args.out.now) c.read_costs.ensures.texts (rw r.field-0-is at r.ensures.cause) in
    let refusal = refusal_of c.args.name.now part.Costs (part_error.Refused r.kind (list_of_rule r.whole) r.index) in
    early_from _ _ _ _ _ c.refuse.result same
    (IfSome_then _ {Q = (λ texts. (text : List ℕ) (ends : Status) → EndsSaying (refusal_line refusal) status.Refused text ends → OnCosts c.args.name.now (λ listed out result. ⊥) (costs_of texts c.args.name.now c.args.joint.now) text ends)}
    (rw r.field-0-is at r.ensures.costs) (λ texts means text ends says. rw means says)) (c.refuse.ensures _ _)

pub returns-in-Err-Memory-clause-opens : goal.returns-in-Err-Memory-clause-opens
returns-in-Err-Memory-clause-opens g c = opens_none _ _ _ (same_outputs _ _ _ _ _ _ c.read_costs.ensures.texts (rw c.in-Err-Memory.field-0-is at c.in-Err-Memory.ensures.cause))
