use Rattle.roman_radix.proofs.Common.{arith}
use Rattle.roman_radix.proofs.Moves.{moves_by}
use Rattle.roman_radix.proofs.Shown.{shown}
use Rattle.roman_radix.proofs.shape.Shape.moved.Goals as goal

pub overflow_mul-result-2 : goal.overflow_mul-result-2
overflow_mul-result-2 c = grind (arith, shown, (moves_by c.args.self.now c.args.p c.args.t c.args.e c.args.k c.args.b))

pub overflow_add-result-2 : goal.overflow_add-result-2
overflow_add-result-2 c = grind (arith, shown, (moves_by c.args.self.now c.args.p c.args.t c.args.e c.args.k c.args.b))
