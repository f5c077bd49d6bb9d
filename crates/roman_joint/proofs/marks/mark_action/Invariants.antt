use Rattle.roman_joint.proofs.Common.{sum_by, take, system_of, AnyOf, IsBeforeEnv, Marks, env_work}
use Rattle.roman_joint.proofs.marks.mark_action.Given as goal

-- the bands of the environment's states so far are marked
abbrev pub invariant-loop-e : goal.invariant-loop-e
invariant-loop-e g l =
    let s = system_of l.joint in
    let so_far = take l.e-index l.envs in
    Marks (AnyOf (IsBeforeEnv s l.row l.a) so_far) (sum_by (env_work s l.row l.a) so_far) l.fn.marks l.marks l.fn.steps l.steps
