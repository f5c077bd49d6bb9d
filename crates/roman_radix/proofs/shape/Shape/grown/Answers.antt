use Rattle.roman_radix.proofs.Common.{arith}
use Rattle.roman_radix.proofs.Moves.{grows_by}
use Rattle.roman_radix.proofs.shape.Shape.grown.Goals as goal

pub overflow_mul-result : goal.overflow_mul-result
overflow_mul-result c = grind (arith, (grows_by c.args.self.now c.args.p c.args.size c.args.b))

pub overflow_add-result : goal.overflow_add-result
overflow_add-result c = grind (arith, (grows_by c.args.self.now c.args.p c.args.size c.args.b))

pub returns : goal.returns
returns c = grind (arith, (grows_by c.args.self.now c.args.p c.args.size c.args.b))
