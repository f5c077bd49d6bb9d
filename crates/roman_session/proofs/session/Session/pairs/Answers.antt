use Rattle.roman_session.proofs.Common.{arith, length-pairs}
use Rattle.roman_session.proofs.session.Session.pairs.Goals as goal

pub returns : goal.returns
returns c = grind (arith, length-pairs)
