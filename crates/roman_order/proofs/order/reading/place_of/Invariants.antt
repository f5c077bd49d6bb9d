use Rattle.roman_order.proofs.Common.{◌-◌, ◌<◌, ◌≤◌, get_or, places_of}
use Rattle.roman_order.proofs.order.reading.place_of.Given as goal

-- the batch is at place low or later, and before high
abbrev pub invariant-search : goal.invariant-search
invariant-search l = record {
  within : l.low < l.high;
  bound : l.high ≤ l.many;
  from : get_or (places_of l.many l.firsts) l.low 0 ≤ l.i;
  to : l.high < l.many → l.i < get_or (places_of l.many l.firsts) l.high 0;
}

abbrev pub decreases-search : goal.decreases-search
decreases-search l = l.high - l.low
