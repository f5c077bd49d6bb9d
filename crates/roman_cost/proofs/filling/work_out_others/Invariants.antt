use Rattle.roman_cost.proofs.Common.{◌≡◌, ℕ, suc, ◌++◌, map, take, least_at, system_of, seat_costs, AreLeastCosts}
use Rattle.roman_cost.proofs.filling.work_out_others.Given as goal

-- the values of the pairs so far
abbrev pub invariant-loop-p : goal.invariant-loop-p
invariant-loop-p l =
    let n = l.relation.joint in
    let s = system_of n in
    let C = seat_costs n l.costs.listed in
    (h : ℕ) → AreLeastCosts s C h l.ranks l.later → l.values.items ≡ l.initial.values.items ++ map (least_at s C (suc h)) (take l.p-index l.others)
