use Rattle.roman_joint.proofs.Common.{ap, ◌+◌, ◌*◌, get_or, sym, ◌∙◌, drop_all, find, not-true, not-false}
use Rattle.roman_joint.proofs.Finds.{find_next}
use Rattle.roman_joint.proofs.outcomes.state_gone.Goals as goal

-- a pair is gone exactly if it isn't alive
pub returns-then-not-alive-clause-first : goal.returns-then-not-alive-clause-first
returns-then-not-alive-clause-first g c = λ gone told.
    let states = c.args.states.now in
    let i = c.loop-state.state-index in
    let answer = told i 0 c.loop-state-test.true c.alive.result (rw c.from.ensures at c.alive.ensures) in
    let passes = not-false (gone (c.args.row + get_or states i 0 * c.args.stride)) (sym answer ∙ c.if-not-alive.true) in
    sym (find_next (λ b. gone (c.args.row + b * c.args.stride)) states i 0 _ c.loop-state-test.true passes) ∙ c.loop-state.invariant gone told

pub loop-state-preserved : goal.loop-state-preserved
loop-state-preserved g c = λ gone told.
    let states = c.args.states.now in
    let i = c.loop-state.state-index in
    let answer = told i 0 c.loop-state-test.true c.alive.result (rw c.from.ensures at c.alive.ensures) in
    let fails = not-true (gone (c.args.row + get_or states i 0 * c.args.stride)) (sym answer ∙ c.if-not-alive.false) in
    sym (find_next (λ b. gone (c.args.row + b * c.args.stride)) states i 0 _ c.loop-state-test.true fails) ∙ c.loop-state.invariant gone told

pub returns-clause-first : goal.returns-clause-first
returns-clause-first g c = λ gone told.
    sym (ap (find (λ b. gone (c.args.row + b * c.args.stride))) (drop_all c.loop-state.state-index c.args.states.now c.loop-state-test.false)) ∙ c.loop-state.invariant gone told
