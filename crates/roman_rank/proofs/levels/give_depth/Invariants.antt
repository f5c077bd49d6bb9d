use Rattle.roman_rank.proofs.Common.{◌≤◌, GivesLevel, max, IsAhead}
use Rattle.roman_rank.proofs.levels.give_depth.Given as goal

-- the pairs of the entries so far have the depth
abbrev pub invariant-loop-i : goal.invariant-loop-i
invariant-loop-i l = record {
  gives : GivesLevel l.order.list l.start l.i l.n l.fn.depths l.depths;
  within : l.i ≤ max l.start l.end;
  ahead : IsAhead l.order l.i l.ahead;
}
