use Rattle.roman_lanes.proofs.Common.{◌≤◌, AreClearFrom}
use Rattle.roman_lanes.proofs.search.first_set.Given as goal

-- all words so far are 0
abbrev pub invariant-loop-i : goal.invariant-loop-i
invariant-loop-i l = record {
  place : l.from ≤ l.i;
  clear : AreClearFrom l.words l.from l.i;
}
