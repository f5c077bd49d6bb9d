use Rattle.roman_joint.proofs.Common.{◌≡◌, ℕ, ◌<◌, ◌||◌, ◌&&◌, ltb, add-one, length, slice_get, sym, ap, ap₂, ◌∙◌, arith, length-map, le-ltb, all_below, sizes_of, on_and, seat_of, system_of, low_in, lane_state_of, may_rest}
use Rattle.roman_joint.proofs.GoodLemmas.{full_on}
use Rattle.roman_joint.proofs.RestLemmas.{none_own, low_seats}
use Rattle.roman_joint.proofs.numbered.JointRules.resting.Goals as goal

pub loop-k-init : goal.loop-k-init
loop-k-init c lane l =
    let s = system_of c.args.self.now in
    let p = λ (k : ℕ). may_rest (slice_get s.seats k) (lane_state_of (sizes_of s) k lane) in
    full_on (sizes_of s) c.layout-rows.result.now lane c.layout-rows.ensures.rows l ∙ sym (ap (all_below (λ k. ltb k (low_in s) || p k)) c.layout-rows.ensures.rows.low ∙ none_own (low_in s) p)

pub loop-k-preserved : goal.loop-k-preserved
loop-k-preserved c lane l =
    let s = system_of c.args.self.now in
    let k = c.loop-k.k in
    let p = λ (k : ℕ). may_rest (slice_get s.seats k) (lane_state_of (sizes_of s) k lane) in
    let q = λ (k : ℕ). ltb k (low_in s) || p k in
    let here : q k ≡ p k = ap (λ t. t || p k) (le-ltb k (low_in s) (omega (arith, c.layout-rows.ensures.rows.low, c.loop-k.auto.k))) in
    on_and _ _ _ ∙ (ap₂ (λ a b. a && b) (c.loop-k.invariant lane l) (c.rests_within-rests.ensures lane l ∙ sym here) ∙ ap (all_below q) (sym (add-one k)))

pub returns : goal.returns
returns c lane l =
    let n = c.args.self.now in
    let s = system_of n in
    let seats : length s.seats ≡ length n.seats = length-map n.seats (seat_of n.catalogue) in
    let end : c.loop-k.k ≡ length s.seats = omega (arith, seats, c.loop-k.auto.k-end (omega (arith, seats, low_seats s))) in
    c.loop-k.invariant lane l ∙ ap (all_below (λ k. ltb k (low_in s) || may_rest (slice_get s.seats k) (lane_state_of (sizes_of s) k lane))) end
