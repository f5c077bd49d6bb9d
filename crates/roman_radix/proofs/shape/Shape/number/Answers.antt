use Rattle.roman_radix.proofs.Common.{arith}
use Rattle.roman_radix.proofs.Moves.{number_few, states_end, states_more}
use Rattle.roman_radix.proofs.shape.Shape.number.Goals as goal

pub overflow_add-number : goal.overflow_add-number
overflow_add-number c = grind (arith, (number_few c.args.self.now (record { t = c.args.t; e = c.args.e; bs = c.args.states.now })))

pub overflow_mul-number-in-loop-k : goal.overflow_mul-number-in-loop-k
overflow_mul-number-in-loop-k c = grind (arith, states_more, (number_few c.args.self.now (record { t = c.args.t; e = c.args.e; bs = c.args.states.now })))

pub overflow_add-number-in-loop-k : goal.overflow_add-number-in-loop-k
overflow_add-number-in-loop-k c = grind (arith, states_more, (number_few c.args.self.now (record { t = c.args.t; e = c.args.e; bs = c.args.states.now })))

pub returns : goal.returns
returns c = grind (arith, states_end, (number_few c.args.self.now (record { t = c.args.t; e = c.args.e; bs = c.args.states.now })))
