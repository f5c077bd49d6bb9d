use Rattle.roman_whatif.proofs.Common.{◌≡◌, ◌-◌, Bool, true, false, not, refl, arith, eqb-true, true≢false, beq}
use Rattle.roman_whatif.proofs.Repeats.{repeated_when}
use Rattle.roman_whatif.proofs.alike.is_repeated.Goals as goal

same_bools : (a b : Bool) → not (beq a b) ≡ false → a ≡ b
same_bools true true e = refl
same_bools false false e = refl
same_bools true false e = absurd (true≢false e)
same_bools false true e = absurd (true≢false e)

pub returns : goal.returns
returns c = λ same.
    let before = c.seat-before.result.now in
    let own = c.seat-own.result.now in (
      omega arith,
      repeated_when c.args.base.now.joint c.args.p (c.args.k - 1) c.args.k c.part_of-own_state.result c.part_of-state_before.result before own c.shape-shape.result.now
          (omega arith) c.requires.1 c.seat-before.ensures c.seat-own.ensures c.if-own-before.false (same_bools own.frozen before.frozen c.if-own-before-2.false) (same_bools own.rests before.rests c.if-own-before-3.false)
          c.shape-shape.ensures c.part_of-state_before.ensures.value c.part_of-own_state.ensures.value (eqb-true c.part_of-own_state.result c.part_of-state_before.result same),
    )
