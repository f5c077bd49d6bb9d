use Rattle.roman_joint.proofs.Common.{sum_by, below, system_of, AnyOf, IsBeforeAction, Marks, action_work}
use Rattle.roman_joint.proofs.numbered.JointRules.mark_before.Given as goal

-- the bands of the actions so far are marked
abbrev pub invariant-loop-a : goal.invariant-loop-a
invariant-loop-a g l =
    let s = system_of l.self in
    Marks (AnyOf (IsBeforeAction s l.row) (below l.a)) (sum_by (action_work s l.row) (below l.a)) l.fn.marks l.marks l.fn.steps l.steps
