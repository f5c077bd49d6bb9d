use Rattle.roman_joint.proofs.Common.{not-not, ◌≡◌, ℕ, ◌+◌, ◌*◌, ◌-◌, ◌^◌, not, ◌&&◌, true, false, eqb, inl, inr, List, get_or, bit_and, sym, ap, ◌∙◌, arith, Fits, cases_lt, bit_at_above, length-replicate, length-zip2, get_or-zip2, Each1-get_or, get_or-replicate, w64, take_all, list_any, is_on, on_and, on_ones}
use Rattle.roman_joint.proofs.WordLemmas.{none_after}
use Rattle.roman_joint.proofs.stripes.StripeUpdateOf.updated.Goals as goal

pub loop-b-init : goal.loop-b-init
loop-b-init g c = record { long = length-replicate g.row.N (2 ^ 64 - 1); each = λ i lane within l. ap (λ z. is_on z lane) (get_or-replicate g.row.N i (2 ^ 64 - 1) 0 within) ∙ on_ones 64 lane l }

pub loop-b-preserved : goal.loop-b-preserved
loop-b-preserved g c =
    let good = c.loop-b.good in
    let next = c.load-good.result in
    let before = c.loop-b.invariant in
    let long = c.load-good.ensures.long in
    let stripe = c.args.self.now in
    let states = stripe.states.now in
    let at = c.loop-b.b-index in record {
      long = length-zip2 bit_and good next (before.long ∙ sym long) ∙ before.long;
      each = λ i lane within l.
          let word = λ (b : ℕ). is_on (get_or stripe.alive.now (stripe.from + (c.args.at + i) + b * stripe.stride) 0) lane in
          let place : stripe.from + c.args.at + c.from.result * stripe.stride + i ≡ stripe.from + (c.args.at + i) + get_or states at 0 * stripe.stride = omega (arith, ap (λ b. b * stripe.stride) c.from.ensures) in
          ap (λ z. is_on z lane) (get_or-zip2 bit_and good next i 0 0 0 (omega (arith, before.long)) (omega (arith, long)))
          ∙ none_after (λ (b : ℕ). not (word b)) states at 0 true (is_on (get_or good i 0) lane) (is_on (bit_and (get_or good i 0) (get_or next i 0)) lane) (omega arith) (before.each i lane within l)
          (on_and _ _ lane ∙ ap (λ b. is_on (get_or good i 0) lane && b) (ap (λ z. is_on z lane) (c.load-good.ensures.each i within) ∙ (ap (λ z. is_on (get_or stripe.alive.now z 0) lane) place ∙ sym (not-not _))));
    }

pub returns-clause-each : goal.returns-clause-each
unfolding is_on
returns-clause-each g c i within lane =
    let stripe = c.args.self.now in
    let any = λ (states : List ℕ). list_any (λ b. not (is_on (get_or stripe.alive.now (stripe.from + (c.args.at + i) + b * stripe.stride) 0) lane)) states in
    c.without.ensures.each i lane within ∙ elim (cases_lt lane 64) [
      | inl l ↦ ap (λ b. is_on (get_or c.args.words i 0) lane && b) (ap not (c.loop-b.invariant.each i lane within l ∙ ap (λ states. not (any states)) (take_all c.loop-b.b-index stripe.states.now c.loop-b-test.false)) ∙ not-not _)
      | inr past ↦
          let off : is_on (get_or c.args.words i 0) lane ≡ false = ap (λ n. eqb n 1) (bit_at_above (get_or c.args.words i 0) 64 lane (Each1-get_or (Fits w64) c.args.words i 0 (omega (arith, c.fits-words.0)) c.fits-words.1).fits past) in
          ap (λ b. b && not (is_on (get_or c.loop-b.good i 0) lane)) off ∙ sym (ap (λ b. b && any stripe.states.now) off)
    ]
