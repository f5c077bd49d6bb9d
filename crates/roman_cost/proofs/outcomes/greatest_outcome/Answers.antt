use Rattle.roman_cost.proofs.Common.{◌+◌, ◌*◌, ap, ◌∙◌, take_all, max_over, ranked}
use Rattle.roman_cost.proofs.Greatest.{max_stepped, max_all}
use Rattle.roman_cost.proofs.outcomes.greatest_outcome.Goals as goal

pub loop-env-preserved : goal.loop-env-preserved
loop-env-preserved c =
    let o = c.args.outcomes in
    max_stepped _ _ _ _ _ _ _ c.loop-env.invariant c.loop-env-test.true
    (c.greatest_state-value.ensures ∙ ap (λ e. max_over (λ b. ranked c.args.ranks.now c.args.later.now (o.base + e * o.env_stride + b * o.stride)) o.states.now) c.from.ensures)
    c.greater-greatest.ensures

pub returns : goal.returns
returns c =
    let o = c.args.outcomes in
    max_all (ranked c.args.ranks.now c.args.later.now) (λ e b. o.base + e * o.env_stride + b * o.stride) o.envs.now o.states.now c.loop-env.greatest
    (c.loop-env.invariant ∙ ap (max_over (λ e. max_over (λ b. ranked c.args.ranks.now c.args.later.now (o.base + e * o.env_stride + b * o.stride)) o.states.now)) (take_all c.loop-env.env-index o.envs.now c.loop-env-test.false))

pub greatest_state-value-requires-clause-ranked : goal.greatest_state-value-requires-clause-ranked
greatest_state-value-requires-clause-ranked c = λ j e m.
    let o = c.args.outcomes in
    let at = c.requires.each c.loop-env.env-index 0 c.loop-env-test.true j e m in
    rw c.from.ensures at
