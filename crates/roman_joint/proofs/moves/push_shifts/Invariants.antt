use Rattle.roman_joint.proofs.Common.{◌≡◌, ◌++◌, vec_capacity, lane_moves_from}
use Rattle.roman_joint.proofs.moves.push_shifts.Given as goal

-- the moves of the shifts so far
abbrev pub invariant-loop-j : goal.invariant-loop-j
invariant-loop-j l = record {
  moves : l.moves.items ≡ l.fn.moves.items ++ lane_moves_from l.lanes l.last l.stride l.j;
  capacity : vec_capacity l.moves ≡ vec_capacity l.fn.moves;
}
