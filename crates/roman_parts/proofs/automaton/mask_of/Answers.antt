use Rattle.roman_parts.proofs.Common.{ℕ, ◌||◌, ◌==◌, get_or, sym, ap, ◌∙◌, arith, list_any_more, bit_at-zero}
use Rattle.roman_parts.proofs.CellLemmas.{has_set}
use Rattle.roman_parts.proofs.automaton.mask_of.Goals as goal

pub loop-b-init : goal.loop-b-init
loop-b-init c = λ n. ap (λ b. b == 1) (bit_at-zero n)

pub loop-b-preserved : goal.loop-b-preserved
loop-b-preserved c = λ n.
    let x : ℕ = get_or c.args.states.now c.loop-b.b-index 0 in
    has_set c.loop-b.mask x n (c.requires c.loop-b.b-index 0 (omega arith))
    ∙ ap (λ p. p || x == n) (c.loop-b.invariant n)
    ∙ sym (list_any_more (λ m. m == n) c.args.states.now c.loop-b.b-index 0 (omega arith))
