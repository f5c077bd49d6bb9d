use Rattle.roman_parts.proofs.Common.{◌≡◌, ◌++◌, length, states_of}
use Rattle.roman_parts.proofs.state_lists.push_states.Given as goal

-- the items so far, followed by the remaining states
abbrev pub invariant-loop-rest : goal.invariant-loop-rest
invariant-loop-rest l = l.items.items ++ states_of l.rest ≡ l.initial.items.items ++ states_of l.mask

abbrev pub decreases-loop-rest : goal.decreases-loop-rest
decreases-loop-rest l = length (states_of l.rest)
