use Rattle.roman_cost.proofs.Common.{◌≡◌, ◌-◌, filter, below, least, through, sizes_of, pair_at, offers, has, system_of, seat_costs}
use Rattle.roman_cost.proofs.Best.{best_of}
use Rattle.roman_cost.proofs.advice.Advice.choice.Given as goal

-- the best of the offered seats so far
abbrev pub invariant-loop-k : goal.invariant-loop-k
invariant-loop-k l =
    let n = l.relation.joint in
    let s = system_of n in
    let C = seat_costs n l.costs.listed in
    let p = pair_at (sizes_of s) l.p in
    l.best ≡ best_of (through s C (least s C (l.h - 1)) p l.a) (filter (has (offers s p l.a)) (below l.k))
