use Rattle.roman_cost.proofs.Common.{◌≡◌, ℕ, ◌-◌, List, Some, slice_get, sym, ap, ap₂, ◌∙◌, sizes_of, pair_at, system_of, choice_line, seat_costs, NamedEnv}
use Rattle.roman_cost.proofs.Lines.{chosen_seat, choice_line_is}
use Rattle.roman_cost.proofs.writing.choice_piece.Goals as goal

pub seat-requires : goal.seat-requires
seat-requires c =
    let n = c.args.relation.now.joint in
    chosen_seat n (seat_costs n c.args.costs.now.listed) (c.requests.result - 1) c.args.start c.args.a c.choice-seat.result.0 c.known.ensures.system c.requires.known.pair c.requires.known.related c.requires.allowed c.choice-seat.ensures.seat

pub returns : goal.returns
returns c =
    let n = c.args.relation.now.joint in
    let C = seat_costs n c.args.costs.now.listed in
    let p = pair_at (sizes_of (system_of n)) c.args.start in
    let names : c.actions.result.now ≡ n.environment.actions = c.actions.ensures.names ∙ ap (λ (e : NamedEnv). e.actions) c.environment.ensures in
    let action : slice_get n.environment.actions c.args.a ≡ Some c.at-action.result.now = ap₂ (λ (xs : List (List ℕ)) (i : ℕ). slice_get xs i) (sym names) (sym c.from.ensures) ∙ c.at-action.ensures.name in
    c.service_piece.ensures
    ∙ choice_line_is n C (c.requests.result - 1) p c.args.a c.choice-seat.result.0 c.choice-seat.result.1 c.at-action.result.now c.seat.result.now c.choice-seat.ensures.seat c.choice-seat.ensures.sum action c.seat.ensures
    ∙ ap (λ (h : ℕ). choice_line n C (h - 1) p c.args.a) c.requests.ensures
