use Rattle.roman_rank.proofs.Common.{◌-◌, arith, none-some}
use Rattle.roman_rank.proofs.Telling.{last_greatest, none_counted}
use Rattle.roman_rank.proofs.ranks.Ranks.deepest.Goals as goal

pub returns-then-levels-eq0-clause-related : goal.returns-then-levels-eq0-clause-related
returns-then-levels-eq0-clause-related c = grind (arith, none_counted)

pub returns-else-levels-eq0-clause-greatest : goal.returns-else-levels-eq0-clause-greatest
returns-else-levels-eq0-clause-greatest c = grind (arith, last_greatest)

pub returns-else-levels-eq0-clause-related : goal.returns-else-levels-eq0-clause-related
returns-else-levels-eq0-clause-related c = grind (arith, none_counted, none-some)
