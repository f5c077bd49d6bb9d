use Rattle.roman_cost.proofs.Common.{◌<◌, arith, sizes_of, pair_at, numbered, allowed_in_range, system_of}
use Rattle.roman_cost.proofs.OfferedSeats.{are_outcomes}
use Rattle.roman_cost.proofs.Values.{all_from}
use Rattle.roman_cost.proofs.terms.push_service.Goals as goal

pub cost-cost-requires-clause-action : goal.cost-cost-requires-clause-action
cost-cost-requires-clause-action c =
    let s = system_of c.args.joint.now in
    let l : c.args.a < s.env.actions = allowed_in_range s (pair_at (sizes_of s) c.args.p) c.args.a c.known.ensures.system c.requires.offered.allowed in
    omega (arith, l, c.requires.costs.env_actions)

pub push_outcomes-requires : goal.push_outcomes-requires
push_outcomes-requires c =
    let of = c.requires.offered in
    are_outcomes _ _ _ _ _ c.outcomes-outcomes.ensures.numbers of.some
    (all_from _ ((numbered (system_of c.args.joint.now)).outcomes c.args.p c.args.a c.args.k) (λ q i. c.requires.ranks.within q (of.related q i))) c.outcomes-outcomes.ensures.places c.outcomes-outcomes.ensures.few
