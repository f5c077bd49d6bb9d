use Rattle.roman_joint.proofs.MarkLemmas.{marks_next}
use Rattle.roman_joint.proofs.marks.mark_env.Goals as goal

pub loop-t-preserved : goal.loop-t-preserved
loop-t-preserved g c = marks_next _ _ c.into-targets.result.now c.loop-t.t-index _ _ _ _ _ _ c.loop-t-test.true c.loop-t.invariant c.mark_target.ensures
