use Rattle.roman_lanes.proofs.Common.{◌-◌, ◌≤◌, length, UpdatesBetween}
use Rattle.roman_lanes.proofs.update.update_each.Given as goal

-- the update is made to the words so far
abbrev pub invariant-loop-words : goal.invariant-loop-words
invariant-loop-words g l = record {
  within : l.at ≤ length l.words;
  updates : UpdatesBetween (g.C.Update.makes l.update) 0 l.at l.fn.words l.words;
}

abbrev pub decreases-loop-words : goal.decreases-loop-words
decreases-loop-words g l = length l.words - l.at
