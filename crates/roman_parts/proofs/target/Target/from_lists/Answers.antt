use Rattle.roman_parts.proofs.Common.{sym, ap, ◌∙◌}
use Rattle.roman_parts.proofs.target.Target.from_lists.Goals as goal

pub invariant_of-result : goal.invariant_of-result
invariant_of-result c =
    let made = c.in_ok-automaton.ensures in
    record {
      count = sym (ap (λ g. g.beh.states) made ∙ c.over-cells.ensures.states);
      single = rw (made, c.over-cells.ensures.states, c.over-cells.ensures.env_states, c.over-cells.ensures.actions) c.requires.single;
    }
