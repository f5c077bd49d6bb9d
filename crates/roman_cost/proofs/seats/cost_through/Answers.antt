use Rattle.roman_cost.proofs.Common.{◌<◌, arith, sizes_of, pair_at, allowed_in_range, system_of}
use Rattle.roman_cost.proofs.OfferedSeats.{are_outcomes, offered_ranked, cost_is, through_fits}
use Rattle.roman_cost.proofs.seats.cost_through.Goals as goal

pub cost-cost-requires-clause-action : goal.cost-cost-requires-clause-action
cost-cost-requires-clause-action c =
    let s = system_of c.args.joint.now in
    let l : c.args.a < s.env.actions = allowed_in_range s (pair_at (sizes_of s) c.args.p) c.args.a c.known.ensures.system c.requires.offered.allowed in
    omega (arith, l, c.requires.costs.env_actions)

pub greatest_outcome-requires : goal.greatest_outcome-requires
greatest_outcome-requires c =
    let (h, later) = c.requires.later in
    are_outcomes _ _ _ _ _ c.outcomes-outcomes.ensures.numbers c.requires.offered.some (offered_ranked _ _ _ _ _ _ _ _ c.requires.offered later) c.outcomes-outcomes.ensures.places c.outcomes-outcomes.ensures.few

pub overflow_add-result : goal.overflow_add-result
overflow_add-result c =
    let (h, later) = c.requires.later in
    grind (arith, (cost_is _ _ _ _ _ _ _ _ c.requires.offered later), (through_fits _ _ h c.args.a c.args.k (pair_at (sizes_of (system_of c.args.joint.now)) c.args.p) _ _ later))

pub returns : goal.returns
returns c = λ h later. grind (arith, (cost_is _ _ _ _ _ _ _ _ c.requires.offered later))
