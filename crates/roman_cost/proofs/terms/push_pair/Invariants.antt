use Rattle.roman_cost.proofs.Common.{◌≡◌, ◌++◌, filter, flat_map, below, sizes_of, pair_at, is_allowed, system_of, seat_costs, action_terms}
use Rattle.roman_cost.proofs.terms.push_pair.Given as goal

-- the terms of the allowed actions so far
abbrev pub invariant-loop-a : goal.invariant-loop-a
invariant-loop-a l =
    let n = l.relation.joint in
    let s = system_of n in
    l.terms.items ≡ l.initial.terms.items ++ flat_map (action_terms s (seat_costs n l.costs.listed) l.ranks l.p) (filter (is_allowed s (pair_at (sizes_of s) l.p)) (below l.a))
