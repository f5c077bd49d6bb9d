use Rattle.roman_cost.proofs.Common.{◌≡◌, ◌++◌, filter, flat_map, below, sizes_of, pair_at, offers, has, system_of, seat_costs, service_terms}
use Rattle.roman_cost.proofs.terms.push_action.Given as goal

-- the terms of the offered seats so far
abbrev pub invariant-loop-k : goal.invariant-loop-k
invariant-loop-k l =
    let n = l.relation.joint in
    let s = system_of n in
    l.terms.items ≡ l.initial.terms.items ++ flat_map (service_terms s (seat_costs n l.costs.listed) l.ranks l.p l.a) (filter (has (offers s (pair_at (sizes_of s) l.p) l.a)) (below l.k))
