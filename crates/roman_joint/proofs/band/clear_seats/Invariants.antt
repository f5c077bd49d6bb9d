use Rattle.roman_joint.proofs.Common.{system_of, ClearsAllServed}
use Rattle.roman_joint.proofs.band.clear_seats.Given as goal

-- the pairs that no seat so far serves are left
abbrev pub invariant-loop-k : goal.invariant-loop-k
invariant-loop-k l = ClearsAllServed (system_of l.joint) l.attempt l.alive l.k l.fn.left l.left
