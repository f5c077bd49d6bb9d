use Rattle.roman_joint.proofs.Common.{sum_by, take, system_of, AnyOf, IsBeforeTarget, Marks, target_work}
use Rattle.roman_joint.proofs.marks.mark_env.Given as goal

-- the bands of the target's states so far are marked
abbrev pub invariant-loop-t : goal.invariant-loop-t
invariant-loop-t g l =
    let s = system_of l.by.joint.now in
    let so_far = take l.t-index l.targets in
    Marks (AnyOf (IsBeforeTarget s l.by.row.now l.by.action l.by.env) so_far) (sum_by (λ t. target_work s l.by.row.now l.by.action l.by.env) so_far) l.fn.marks l.marks l.fn.steps l.steps
