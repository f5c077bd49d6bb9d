use Rattle.roman_lanes.proofs.Common.{◌≤◌, ◌-◌, length, AreClearFrom}
use Rattle.roman_lanes.proofs.search.past_clear.Given as goal

-- all words so far are 0
abbrev pub invariant-loop-at : goal.invariant-loop-at
invariant-loop-at l = record {
  place : l.from ≤ l.at;
  within : l.at ≤ length l.words;
  clear : AreClearFrom l.words l.from l.at;
}

abbrev pub decreases-loop-at : goal.decreases-loop-at
decreases-loop-at l = length l.words - l.at
