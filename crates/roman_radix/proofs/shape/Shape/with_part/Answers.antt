use Rattle.roman_radix.proofs.Common.{arith}
use Rattle.roman_radix.proofs.Moves.{replaced_by}
use Rattle.roman_radix.proofs.shape.Shape.with_part.Goals as goal

pub overflow_mul-result-2 : goal.overflow_mul-result-2
overflow_mul-result-2 c = grind (arith, (replaced_by c.args.self.now c.args.p c.args.k c.args.b))

pub overflow_add-result : goal.overflow_add-result
overflow_add-result c = grind (arith, (replaced_by c.args.self.now c.args.p c.args.k c.args.b))

pub returns : goal.returns
returns c = grind (arith, (replaced_by c.args.self.now c.args.p c.args.k c.args.b))
