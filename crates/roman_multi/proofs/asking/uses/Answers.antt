use Rattle.roman_multi.proofs.Common.{◌≡◌, ◌<◌, length, ap, not, sym, ◌∙◌, arith, list_any, below, is_empty, beh_next}
use Rattle.roman_multi.proofs.ListLemmas.{any_at}
use Rattle.roman_multi.proofs.asking.uses.Goals as goal

pub returns-then-uses_at : goal.returns-then-uses_at
returns-then-uses_at c =
    let count : c.len-t-end.result ≡ c.args.target.now.beh.states = c.len-t-end.ensures.len ∙ ap length c.states.ensures.names ∙ c.states.ensures.count in
    let within : c.loop-t.t < c.len-t-end.result = c.loop-t-test.true in
    sym (any_at (λ b. list_any (λ e. not (is_empty (beh_next c.args.target.now.beh b e c.args.a))) (below c.args.env_states)) c.args.target.now.beh.states c.loop-t.t (omega arith) (sym c.if-uses_at.ensures))
