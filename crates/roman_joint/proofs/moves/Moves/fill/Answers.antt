use Rattle.roman_joint.proofs.Common.{ap₂, arith, false, true, ◌*◌, ◌-◌, ◌≡◌}
use Rattle.roman_joint.proofs.moves.Moves.fill.Goals as goal

pub fill_column-requires-clause-column : goal.fill_column-requires-clause-column
fill_column-requires-clause-column c = rw (c.requires.suits.envs, c.requires.suits.actions) at c.loop-column-test.true

pub returns : goal.returns
returns c =
    let end : c.loop-column.column ≡ c.args.parts.now.environment.now.env.states * c.args.parts.now.environment.now.env.actions = omega (arith, c.loop-column-test.false, ap₂ (λ m n. m * n) c.requires.suits.envs c.requires.suits.actions) in
    rw end at c.loop-column.invariant
