use Rattle.roman_joint.proofs.Common.{not-not, sym, ℕ, ◌+◌, ◌*◌, not, slice_index, ap, ◌∙◌, arith, is_on}
use Rattle.roman_joint.proofs.WordLemmas.{alive_more}
use Rattle.roman_joint.proofs.words.rows_alive.Goals as goal

pub loop-state-preserved : goal.loop-state-preserved
loop-state-preserved c lane =
    let word = λ (b : ℕ). is_on (slice_index c.args.words.now (c.args.base + b * c.args.stride)) lane in
    alive_more (λ (b : ℕ). not (word b)) c.args.states.now c.loop-state.state-index 0 c.args.good c.loop-state.alive (slice_index c.args.words.now (c.args.base + c.from.result * c.args.stride)) lane
    (omega arith) (c.loop-state.invariant lane) (ap word c.from.ensures ∙ sym (not-not _))
