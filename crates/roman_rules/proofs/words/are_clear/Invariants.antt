use Rattle.roman_rules.proofs.Common.{◌≡◌, ℕ, ◌<◌, slice_index}
use Rattle.roman_rules.proofs.words.are_clear.Given as goal

-- if the words so far, joined, are 0, each of them is
abbrev pub invariant-loop-i : goal.invariant-loop-i
invariant-loop-i l = (j : ℕ) → j < l.i → l.all ≡ 0 → slice_index l.words j ≡ 0
