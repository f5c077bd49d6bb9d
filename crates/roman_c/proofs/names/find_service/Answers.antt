use Rattle.roman_c.proofs.Common.{past_found, past_next, past_none, arith, length-map, mapped_at}
use Rattle.roman_c.proofs.names.find_service.Goals as goal

pub returns-then-eq : goal.returns-then-eq
returns-then-eq c = grind (arith, length-map, past_found, mapped_at)

pub loop-k-preserved : goal.loop-k-preserved
loop-k-preserved c = grind (arith, length-map, past_next, mapped_at)

pub returns : goal.returns
returns c = grind (arith, length-map, past_none)
