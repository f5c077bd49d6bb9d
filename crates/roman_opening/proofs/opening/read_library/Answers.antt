use Rattle.roman_opening.proofs.Common.{refl, refusal_line, TurnsAway, IfSome_then}
use Rattle.roman_opening.specs.declared.status.Status.TheVariants as status
use Rattle.roman_opening.proofs.OpeningLemmas.{same_outputs, opens_fault, opens_line, opens_none}
use Rattle.roman_opening.proofs.opening.read_library.Goals as goal

pub returns-in-Ok-clause-reads : goal.returns-in-Ok-clause-reads
returns-in-Ok-clause-reads g c = record { holds = c.in-Ok.ensures.meaning; same = same_outputs _ _ _ _ _ _ c.load.ensures.texts c.in-Ok.ensures.cause }

pub returns-in-Err-Fault-clause-reads : goal.returns-in-Err-Fault-clause-reads
returns-in-Err-Fault-clause-reads g c = opens_fault _ _ _ _ _ _ _ c.load.ensures.texts (rw c.in-Err-Fault.field-0-is at c.in-Err-Fault.ensures.cause)

pub returns-in-Err-Refused-clause-reads : goal.returns-in-Err-Refused-clause-reads
returns-in-Err-Refused-clause-reads g c =
    let refusal = c.in-Err-Refused.refusal in
    let same = same_outputs _ _ _ _ (g.O.Sink.written c.args.out.now) (g.O.Sink.faults c.args.out.now) c.load.ensures.texts (rw c.in-Err-Refused.field-0-is at c.in-Err-Refused.ensures.cause) in
    opens_line (TurnsAway c.args.name.now) _ _ _ _ (refusal_line refusal) status.Refused c.finish.result c.put_refusal.result same tt (λ e. let h : ⊥ = cc in h)
    (IfSome_then _ {Q = (λ texts. TurnsAway c.args.name.now texts (refusal_line refusal) status.Refused)} (rw c.in-Err-Refused.field-0-is at c.in-Err-Refused.ensures.meaning) (λ texts means. rw means (refl, refl)))
    c.put_refusal.ensures.puts c.put_refusal.ensures.cause c.finish.ensures

pub returns-in-Err-Memory-clause-reads : goal.returns-in-Err-Memory-clause-reads
returns-in-Err-Memory-clause-reads g c = opens_none _ _ _ (same_outputs _ _ _ _ _ _ c.load.ensures.texts (rw c.in-Err-Memory.field-0-is at c.in-Err-Memory.ensures.cause))
