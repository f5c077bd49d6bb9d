use Rattle.roman_joint.proofs.Common.{◌≡◌, ℕ, ◌+◌, ◌-◌, ◌<◌, Bool, true, false, not, ◌&&◌, get_or, bit_and, refl, sym, ap, ◌∙◌, arith, rules, length-zip2, get_or-zip2, is_on, Move, on_and, in_at}
use Rattle.roman_joint.proofs.WordLemmas.{alive_more}
use Rattle.roman_joint.proofs.words.each_moves_alive.Goals as goal

abbrev nowhere : Move
nowhere = record { lanes = 0; from = 0; to = 0 }

pub shifted-requires : goal.shifted-requires
shifted-requires g c =
    (search rules, c.requires (get_or c.args.moves.now c.loop-step.step-index nowhere) (in_at c.args.moves.now c.loop-step.step-index nowhere (omega arith)))

-- tests that agree whenever `on` is true give the same result
where_on : (on a b : Bool) → (on ≡ true → a ≡ b) → not (on && not a) ≡ not (on && not b)
where_on true a b h = ap (λ t. not (not t)) (h refl)
where_on false a b h = refl

pub loop-step-preserved : goal.loop-step-preserved
loop-step-preserved g c =
    let left = c.loop-step.left in
    let next = c.unmoved-left.result in
    let before = c.loop-step.invariant in
    let long = c.unmoved-left.ensures.long in
    let word = λ (i lane : ℕ) (within : i < g.row.N). ap (λ z. is_on z lane) (get_or-zip2 bit_and left next i 0 0 0 (omega (arith, before.long)) (omega (arith, long))) in record {
      long = length-zip2 bit_and left next (before.long ∙ sym long) ∙ before.long;
      alive = λ i lane within l h.
          let moves = c.args.moves.now in
          let at = c.loop-step.step-index in
          let move = get_or moves at nowhere in
          let in_moves = in_at moves at nowhere (omega arith) in
          let alive = get_or c.args.alive i 0 in
          let test = λ (m : Move). is_on m.lanes lane && not (is_on alive (lane + m.to - m.from)) in
          word i lane within
          ∙ alive_more test moves at nowhere c.args.good (get_or left i 0) (get_or next i 0) lane (omega arith) (before.alive i lane within l h)
          (c.unmoved-left.ensures.each i lane within l
          ∙ where_on (is_on move.lanes lane) (is_on (get_or c.shifted.result i 0) lane) (is_on alive (lane + move.to - move.from)) (λ on. let to = h move in_moves on in c.shifted.ensures.each i lane within to.0 l to.1));
      within = λ i lane within off. word i lane within ∙ (on_and (get_or left i 0) (get_or next i 0) lane ∙ ap (λ b. b && is_on (get_or next i 0) lane) (before.within i lane within off));
    }
