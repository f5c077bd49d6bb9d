use Rattle.roman_joint.proofs.Common.{◌/◌, sum_by, below, system_of, band_in, AnyOf, IsBeforeSeat, IsMarked, Marks, row_at, seat_work}
use Rattle.roman_joint.proofs.marks.mark_target.Given as goal

-- the band of the seats that kept their states is marked, and the bands of the seats so far
abbrev pub invariant-loop-k : goal.invariant-loop-k
invariant-loop-k g l =
    let s = system_of l.by.joint.now in
    let at = row_at s l.by.row.now l.by.env l.t in
    record {
      own : IsMarked l.marks (at / band_in s);
      seats : Marks (AnyOf (IsBeforeSeat s l.by.row.now l.by.action l.by.env at) (below l.k)) (sum_by (seat_work s l.by.row.now l.by.action l.by.env) (below l.k)) l.fn.marks l.marks l.fn.steps l.steps;
    }
