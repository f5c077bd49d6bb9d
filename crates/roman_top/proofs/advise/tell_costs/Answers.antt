use Rattle.roman_top.proofs.Common.{NamedSys, system_of, subst, Prints, SaysAdvice, advised_by, pair_at, sizes_of}
use Rattle.roman_top.proofs.advise.tell_costs.Goals as goal

pub returns-in-Ok : goal.returns-in-Ok
returns-in-Ok g c =
    subst (λ (n : NamedSys). Prints (SaysAdvice (advised_by n c.args.costs.now.listed c.args.requests.count (pair_at (sizes_of (system_of n)) c.args.seated.start))) (g.O.Sink.written c.args.out.now) (g.O.Sink.faults c.args.out.now)
    (g.O.Sink.written c.tell_relation.new.out) (g.O.Sink.faults c.tell_relation.new.out) c.tell_relation.result) c.in-Ok.ensures.joint c.tell_relation.ensures
