use Rattle.roman_radix.proofs.Common.{arith}
use Rattle.roman_radix.proofs.Moves.{shrinks}
use Rattle.roman_radix.proofs.shape.Shape.without.Goals as goal

pub returns : goal.returns
returns c = grind (arith, (shrinks c.args.self.now c.args.p c.args.k))
