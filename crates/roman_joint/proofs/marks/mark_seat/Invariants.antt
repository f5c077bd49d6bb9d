use Rattle.roman_joint.proofs.Common.{sum_by, take, AnyOf, IsMoved, Marks}
use Rattle.roman_joint.proofs.marks.mark_seat.Given as goal

-- the bands of the states so far are marked, with one step for each
abbrev pub invariant-loop-b : goal.invariant-loop-b
invariant-loop-b g l = Marks (AnyOf (IsMoved l.base l.stride l.taken l.rows.band) (take l.b-index l.states)) (sum_by (λ b. 1) (take l.b-index l.states)) l.fn.marks l.marks l.fn.steps l.steps
