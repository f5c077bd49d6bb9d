use Rattle.roman_parts.proofs.Common.{◌≡◌, ℕ, take, has_state, has}
use Rattle.roman_parts.proofs.automaton.mask_of.Given as goal

-- the mask has the states so far
abbrev pub invariant-loop-b : goal.invariant-loop-b
invariant-loop-b l = (n : ℕ) → has_state l.mask n ≡ has (take l.b-index l.states) n
