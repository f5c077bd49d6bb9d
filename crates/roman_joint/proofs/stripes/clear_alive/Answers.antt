use Rattle.roman_joint.proofs.Common.{◌≡◌, ℕ, ◌+◌, ◌*◌, not, ◌&&◌, ◌∙◌, sym, ap, get_or, slice_index, arith, get_or-drop, list_any, is_on, rest_is}
use Rattle.roman_joint.proofs.WordLemmas.{any_one}
use Rattle.roman_joint.proofs.stripes.clear_alive.Goals as goal

pub returns-clause-each : goal.returns-clause-each
returns-clause-each c i l =
    let rows = c.args.rows.now in
    let words = c.args.words.now in
    let from = c.number-from.result in
    let place : from + i ≡ rows.base + i + get_or rows.envs.now 0 0 * rows.env_stride + get_or rows.states.now 0 0 * rows.stride = omega (arith, c.number-from.ensures) in
    let lost = λ (lane : ℕ). c.less-2.ensures.each i lane l ∙ ap (λ z. is_on (slice_index c.args.left.now i) lane && not (is_on z lane)) (ap (λ ws. slice_index ws i) (rest_is words from) ∙ (get_or-drop from words i 0 ∙ ap (slice_index words) place)) in
    record {
      each = λ lane on. lost lane
          ∙ ap (λ b. is_on (slice_index c.args.left.now i) lane && b) (sym (any_one (λ e. list_any (λ b. not (is_on (slice_index words (rows.base + i + e * rows.env_stride + b * rows.stride)) lane)) rows.states.now) rows.envs.now 0 (omega (arith, c.if-rows-ne1.false))
          ∙ any_one _ rows.states.now 0 (omega (arith, c.if-rows-ne1-2.false))));
      none = λ lane off. let here = lost lane in grind arith;
    }
