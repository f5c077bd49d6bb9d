use Rattle.roman_joint.proofs.Common.{◌≡◌, ℕ, ◌<◌, length, slice_index}
use Rattle.roman_joint.proofs.stripes.set_first.Given as goal

-- the words so far are set
abbrev pub invariant-loop-i : goal.invariant-loop-i
invariant-loop-i l = record {
  long : length l.to ≡ length l.fn.to;
  done : (k : ℕ) → k < l.i → slice_index l.to k ≡ l.word;
}
