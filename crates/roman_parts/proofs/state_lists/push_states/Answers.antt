use Rattle.roman_parts.proofs.Common.{◌<◌, ◌^◌, append_assoc, arith, append-nil}
use Rattle.roman_parts.proofs.SetLemmas.{states_of-next, states_of-zero}
use Rattle.roman_parts.proofs.state_lists.push_states.Goals as goal

pub loop-rest-smaller : goal.loop-rest-smaller
loop-rest-smaller c = grind (arith, states_of-next)

pub loop-rest-preserved : goal.loop-rest-preserved
loop-rest-preserved c =
    let fits : c.loop-rest.rest < 2 ^ 64 = omega arith in
    let next = states_of-next c.loop-rest.rest (omega arith) fits in
    rw (c.in_ok-push.ensures.items, append_assoc, ← next) c.loop-rest.invariant

pub returns : goal.returns
returns c = rw (← c.loop-rest.invariant, c.loop-rest-test.false, states_of-zero, append-nil)
