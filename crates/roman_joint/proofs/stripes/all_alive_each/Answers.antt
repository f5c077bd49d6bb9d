use Rattle.roman_joint.proofs.Common.{◌≡◌, ℕ, ◌+◌, ◌*◌, not, ◌&&◌, slice_index, ap, ◌∙◌, arith, list_any, is_on}
use Rattle.roman_joint.proofs.WordLemmas.{none_after}
use Rattle.roman_joint.proofs.stripes.all_alive_each.Goals as goal

pub loop-env-preserved : goal.loop-env-preserved
loop-env-preserved c = record {
  long = c.rows_alive_each.ensures.long ∙ c.loop-env.invariant.long;
  each = λ i lane l.
      let test = λ (m : ℕ). list_any (λ b. not (is_on (slice_index c.args.words.now (m + b * c.args.rows.now.stride)) lane)) c.args.rows.now.states.now in
      let by_env = λ (e : ℕ). test (c.args.rows.now.base + i + e * c.args.rows.now.env_stride) in
      let at : c.args.rows.now.base + c.from.result * c.args.rows.now.env_stride + i ≡ c.args.rows.now.base + i + c.from.result * c.args.rows.now.env_stride = omega arith in
      none_after by_env c.args.rows.now.envs.now c.loop-env.env-index 0 (is_on (slice_index c.args.all.now i) lane) (is_on (slice_index c.loop-env.all i) lane) (is_on (slice_index c.rows_alive_each.new.all i) lane)
      (omega arith) (c.loop-env.invariant.each i lane l)
      (c.rows_alive_each.ensures.each i lane (omega (arith, l, c.loop-env.invariant.long)) ∙ ap (λ m. is_on (slice_index c.loop-env.all i) lane && not (test m)) at ∙ ap (λ e. is_on (slice_index c.loop-env.all i) lane && not (by_env e)) c.from.ensures);
}
