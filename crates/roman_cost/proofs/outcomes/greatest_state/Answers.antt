use Rattle.roman_cost.proofs.Common.{◌+◌, ◌*◌, ap, ranked}
use Rattle.roman_cost.proofs.Greatest.{max_stepped}
use Rattle.roman_cost.proofs.outcomes.greatest_state.Goals as goal

pub loop-state-preserved : goal.loop-state-preserved
loop-state-preserved c =
    max_stepped (λ b. ranked c.args.ranks.now c.args.later.now (c.args.from + b * c.args.stride)) c.args.states.now c.loop-state.state-index 0 c.loop-state.greatest _ c.greater-greatest.result
    c.loop-state.invariant c.loop-state-test.true (ap (λ b. ranked c.args.ranks.now c.args.later.now (c.args.from + b * c.args.stride)) c.from.ensures) c.greater-greatest.ensures
