use Rattle.roman_joint.proofs.Common.{◌≡◌, ◌+◌, ◌*◌, ◌&&◌, not, get_or, slice_index, sym, ap, ◌∙◌, arith, get_or-drop, is_on, rest_is}
use Rattle.roman_joint.proofs.WordLemmas.{any_one}
use Rattle.roman_joint.proofs.stripes.update_words.Goals as goal

pub returns-then-stripe-eq1-clause-each : goal.returns-then-stripe-eq1-clause-each
returns-then-stripe-eq1-clause-each c i l lane =
    let stripe = c.args.stripe.now in
    let words = stripe.alive.now in
    let from = stripe.from + c.from.result * stripe.stride in
    let place : from + i ≡ stripe.from + i + get_or stripe.states.now 0 0 * stripe.stride = omega (arith, ap (λ b. b * stripe.stride) c.from.ensures) in
    c.update_each.ensures.each i l lane ∙ ap (λ b. is_on (slice_index c.args.words.now i) lane && b)
    (ap (λ z. not (is_on z lane)) (ap (λ ws. slice_index ws i) (rest_is words from) ∙ (get_or-drop from words i 0 ∙ ap (slice_index words) place))
    ∙ sym (any_one (λ b. not (is_on (slice_index words (stripe.from + i + b * stripe.stride)) lane)) stripe.states.now 0 (omega (arith, c.if-stripe-eq1.true))))
