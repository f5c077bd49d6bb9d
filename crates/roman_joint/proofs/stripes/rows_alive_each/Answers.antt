use Rattle.roman_joint.proofs.Common.{not-not, sym, ◌≡◌, ℕ, ◌+◌, ◌*◌, not, slice_index, ap, ◌∙◌, arith, bit_and, is_on}
use Rattle.roman_joint.proofs.WordLemmas.{alive_more}
use Rattle.roman_joint.proofs.stripes.rows_alive_each.Goals as goal

pub loop-state-preserved : goal.loop-state-preserved
loop-state-preserved c = record {
  long = c.and_from.ensures.long ∙ c.loop-state.invariant.long;
  each = λ i lane l.
      let words = c.args.words.now in
      let word = λ (b : ℕ). is_on (slice_index words (c.args.base + i + b * c.args.stride)) lane in
      let at : c.args.base + c.from.result * c.args.stride + i ≡ c.args.base + i + c.from.result * c.args.stride = omega arith in
      ap (λ z. is_on z lane) (c.and_from.ensures.each i (omega (arith, l, c.loop-state.invariant.long)) ∙ ap (λ z. bit_and (slice_index c.loop-state.all i) (slice_index words z)) at)
      ∙ alive_more (λ (b : ℕ). not (word b)) c.args.states.now c.loop-state.state-index 0 (slice_index c.args.all.now i) (slice_index c.loop-state.all i) (slice_index words (c.args.base + i + c.from.result * c.args.stride)) lane
      (omega arith) (c.loop-state.invariant.each i lane l) (ap word c.from.ensures ∙ sym (not-not _));
}
