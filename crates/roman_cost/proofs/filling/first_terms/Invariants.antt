use Rattle.roman_cost.proofs.Common.{◌≡◌, take, flat_map, system_of, seat_costs, pair_terms}
use Rattle.roman_cost.proofs.filling.first_terms.Given as goal

-- the terms of the pairs so far
abbrev pub invariant-loop-i : goal.invariant-loop-i
invariant-loop-i l =
    let n = l.relation.joint in
    l.terms.items ≡ flat_map (pair_terms (system_of n) (seat_costs n l.costs.listed) l.ranks) (take l.i l.pairs)
