use Rattle.roman_order.proofs.Common.{◌≡◌, arith}
use Rattle.roman_order.proofs.Batches.{last_is}
use Rattle.roman_order.proofs.Lanes.{all_lower}
use Rattle.roman_order.proofs.order.pushes.takes.Goals as goal

pub returns-then-eq-clause-last : goal.returns-then-eq-clause-last
returns-then-eq-clause-last c low front e same =
    let here : c.in-Some.last.now ≡ e = last_is front e _ (rw same at c.in-Some.ensures.value) in
    rw (← here) (record { row = grind arith; why = grind arith; lower = λ l m on there. grind (arith, all_lower) })
