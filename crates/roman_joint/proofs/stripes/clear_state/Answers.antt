use Rattle.roman_joint.proofs.Common.{◌≡◌, ◌+◌, ◌-◌, ◌*◌, ◌/◌, ◌%◌, ◌<◌, not, ◌&&◌, slice_index, inl, inr, sym, ap, ap₂, ◌∙◌, arith, ℕ, ◌≤◌, list_any, cases_lt, mod_below, div-mul-add, mod-mul-add, div-add-mod', mul-le, is_on, div-div-eq-div-mul, div-eq_of_lt-le}
use Rattle.roman_joint.proofs.stripes.clear_state.Goals as goal

-- the state at a place of a block
state_at : (t b size stride j : ℕ) → b < size → j < stride → (t * (size * stride) + b * stride + j) / stride % size ≡ b
state_at t b size stride j l m =
    let place : t * (size * stride) + b * stride + j ≡ (t * size + b) * stride + j = omega arith in
    ap (λ z. z / stride % size) place ∙ (ap (λ z. z % size) (div-mul-add (t * size + b) stride j m) ∙ mod-mul-add t size b l)

-- the place of a word from its block, its state and the rest
place_of : (i block b size stride : ℕ) → 0 < stride → 0 < size → i / stride % size ≡ b → block * (size * stride) ≤ i → i < (block + 1) * (size * stride) → i ≡ block * (size * stride) + b * stride + i % stride
place_of i block b size stride pos some is low high =
    let turned : i / (stride * size) ≡ i / (size * stride) = ap (λ m. i / m) (omega arith) in
    let same : i / stride / size ≡ block = div-div-eq-div-mul i stride size ∙ (turned ∙ div-eq_of_lt-le (size * stride) low high) in
    let digits : (i / stride / size * size + i / stride % size) * stride ≡ i / stride * stride = ap (λ z. z * stride) (div-add-mod' (i / stride) size) in
    let own : (i / stride / size * size + i / stride % size) * stride ≡ (block * size + b) * stride = ap₂ (λ q d. (q * size + d) * stride) same is in
    omega (arith, div-add-mod' i stride, digits, own)

-- the words of a state of a block are among all words
in_block : (block blocks size stride c : ℕ) → block < blocks → c < size → (c * stride + stride ≤ size * stride) × (block * (size * stride) + (c * stride + stride) ≤ blocks * (size * stride))
in_block block blocks size stride c l m = grind (arith, mul-le)

pub loop-block-preserved : goal.loop-block-preserved
loop-block-preserved c =
    let block = c.loop-block.block in
    let b = c.args.b in
    let size = c.args.size in
    let stripe = c.args.stripe.now in
    let stride = stripe.stride in
    let now = c.loop-block.left in
    let before = c.loop-block.invariant in
    let step : block * (c.from.result * stride) ≡ block * (size * stride) = ap (λ z. block * (z * stride)) c.from.ensures in
    let own : c.from-2.result * stride ≡ b * stride = ap (λ z. z * stride) c.from-2.ensures in
    let to = block * (c.from.result * stride) + c.from-2.result * stride in
    let room = (in_block block (block + 1) size stride b (omega arith) c.requires.component.state).0 in
    let next : (block + 1) * (size * stride) ≡ block * (size * stride) + size * stride = omega arith in
    record {
      long = c.clear_stripe.ensures.long ∙ before.long;
      each = λ i l is lane. elim (cases_lt i (block * (size * stride))) [
        | inl low ↦ ap (λ z. is_on z lane) (c.clear_stripe.ensures.below i (omega (arith, low, step))) ∙ before.each i low is lane
        | inr past ↦
            let place = place_of i block b size stride c.requires.component.stride_some (omega (arith, c.requires.component.state)) is past l in
            let m : i % stride < stride = mod_below i stride c.requires.component.stride_some in
            let at : to + i % stride ≡ i = omega (arith, place, step, own) in
            let base : stripe.from + block * (c.from.result * stride) + i % stride ≡ stripe.from + (i - b * stride) = omega (arith, place, step) in
            ap (λ z. is_on (slice_index c.clear_stripe.new.left z) lane) (sym at) ∙ (c.clear_stripe.ensures.each (i % stride) m lane
            ∙ ap₂ (λ p q. p && q) (ap (λ z. is_on (slice_index now z) lane) at ∙ ap (λ z. is_on z lane) (before.above i past))
            (ap (λ z. list_any (λ d. not (is_on (slice_index stripe.alive.now (z + d * stride)) lane)) stripe.states.now) base))
      ];
      others = λ i other. elim (cases_lt i to) [
        | inl low ↦ c.clear_stripe.ensures.below i low ∙ before.others i other
        | inr past ↦ elim (cases_lt i (to + stride)) [
          | inl inside ↦
              let place : i ≡ block * (size * stride) + b * stride + (i - to) = omega (arith, past, step, own) in
              absurd (other (ap (λ z. z / stride % size) place ∙ state_at block b size stride (i - to) c.requires.component.state (omega (arith, past, inside))))
          | inr high ↦ c.clear_stripe.ensures.above i high ∙ before.others i other
        ]
      ];
      above = λ i l. c.clear_stripe.ensures.above i (omega (arith, l, next, room, step, own)) ∙ before.above i (omega (arith, l, next));
    }
