use Rattle.roman_rules.proofs.Common.{◌≡◌, ℕ, ◌+◌, ◌<◌, length, slice_index}
use Rattle.roman_rules.proofs.words.copy_rows.Given as goal

-- the words so far are copied
abbrev pub invariant-loop-i : goal.invariant-loop-i
invariant-loop-i l = record {
  long : length l.to ≡ length l.fn.to;
  each : (k : ℕ) → k < l.i → slice_index l.to k ≡ slice_index l.words (l.x + k);
}
