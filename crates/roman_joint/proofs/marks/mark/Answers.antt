use Rattle.roman_joint.proofs.Common.{◌/◌, ◌%◌, refl, arith}
use Rattle.roman_joint.proofs.MarkLemmas.{put_mark}
use Rattle.roman_joint.proofs.marks.mark.Goals as goal

pub returns-clause-grows : goal.returns-clause-grows
returns-clause-grows c = (put_mark c.args.marks.now c.args.y (c.args.y / 64) (c.args.y % 64) (omega (arith, c.if-place-marks.false)) refl refl).0

pub returns-clause-marked : goal.returns-clause-marked
returns-clause-marked c l = (put_mark c.args.marks.now c.args.y (c.args.y / 64) (c.args.y % 64) (omega (arith, c.if-place-marks.false)) refl refl).1
