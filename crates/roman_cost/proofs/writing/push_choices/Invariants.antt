use Rattle.roman_cost.proofs.Common.{◌≡◌, ◌++◌, ◌-◌, flat_map, sizes_of, pair_at, allowed_actions, system_of, choice_line, seat_costs, IsFilling}
use Rattle.roman_cost.proofs.Lines.{choices_from}
use Rattle.roman_cost.proofs.writing.push_choices.Given as goal

-- the lines of the actions so far are pushed
abbrev pub invariant-loop-a : goal.invariant-loop-a
invariant-loop-a g l =
    let n = l.relation.joint in
    let C = seat_costs n l.costs.listed in
    let p = pair_at (sizes_of (system_of n)) l.start in
    record {
      filling : IsFilling (g.O.Sink.written l.fn.out) (g.O.Sink.written l.out) l.page (choices_from n C (l.advice.requests - 1) p l.a) (l.fn.page ++ flat_map (choice_line n C (l.advice.requests - 1) p) (allowed_actions (system_of n) p));
      cause : g.O.Sink.faults l.out ≡ g.O.Sink.faults l.fn.out;
    }
