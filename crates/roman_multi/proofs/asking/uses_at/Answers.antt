use Rattle.roman_multi.proofs.Common.{not, sym, arith, is_empty, beh_next}
use Rattle.roman_multi.proofs.ListLemmas.{any_at, goes_found}
use Rattle.roman_multi.proofs.asking.uses_at.Goals as goal

pub returns-then-is_some : goal.returns-then-is_some
returns-then-is_some c =
    sym (any_at (λ e. not (is_empty (beh_next c.args.target.now.beh c.args.t e c.args.a))) c.args.env_states c.loop-e.e (omega arith)
    (goes_found c.step.result (beh_next c.args.target.now.beh c.args.t c.loop-e.e c.args.a) c.is_some.result c.step.ensures.next c.is_some.ensures c.if-is_some.true))
