use Rattle.roman_joint.proofs.Common.{◌≡◌, system_of, IsWalk, left, walk_left}
use Rattle.roman_joint.proofs.joint.Joint.back.Given as goal

-- no delegation was returned yet
abbrev pub invariant-on : goal.invariant-on
invariant-on g l = record {
  walk : IsWalk (system_of l.self) l.walk;
  left : left (system_of l.self) l.walk ≡ left (system_of l.self) l.fn.walk;
  steps : l.steps ≡ l.fn.steps;
}

abbrev pub decreases-on : goal.decreases-on
decreases-on g l = walk_left (system_of l.self) l.walk
