use Rattle.roman_joint.proofs.Common.{length-below, sizes_of, count, ap, arith, false, length, ◌-◌, ◌∙◌, ◌≡◌, system_of}
use Rattle.roman_joint.proofs.SplitLemmas.{joint_sizes}
use Rattle.roman_joint.proofs.MarkLemmas.{marks_above, is_before, in_table, count_front}
use Rattle.roman_joint.proofs.numbered.JointRules.mark_before.Goals as goal

pub loop-a-preserved : goal.loop-a-preserved
loop-a-preserved g c = marks_above _ _ c.loop-a.a _ _ _ _ _ _ c.loop-a.invariant c.mark_action.ensures

pub returns-clause-marked : goal.returns-clause-marked
returns-clause-marked g c y i lane p a k ok in_rows in_lanes below_p led =
    let n = c.args.self.now in
    let s = system_of n in
    let end : c.loop-a.a ≡ s.env.actions = omega (arith, c.loop-a-test.false, c.len-a-end.ensures.len, rw c.environment.ensures at (ap length c.actions.ensures.names ∙ c.actions.ensures.count)) in
    let sizes = joint_sizes n c.known.ensures in
    let pairs = length-below (count (sizes_of s)) in
    let inside = rw pairs at below_p in
    (rw end at c.loop-a.invariant).marked _ (is_before s _ y i lane p a k c.known.ensures.system sizes ok in_rows in_lanes inside led)
    (in_table s p _ sizes inside (rw c.loop-a.invariant.grows.long (rw pairs at c.requires.room)))

pub returns-clause-steps : goal.returns-clause-steps
returns-clause-steps g c y i lane ok in_rows in_lanes =
    let s = system_of c.args.self.now in
    let end : c.loop-a.a ≡ s.env.actions = omega (arith, c.loop-a-test.false, c.len-a-end.ensures.len, rw c.environment.ensures at (ap length c.actions.ensures.names ∙ c.actions.ensures.count)) in
    omega (arith, (rw end at c.loop-a.invariant).steps, count_front s c.args.row.now y i lane c.known.ensures.system (joint_sizes c.args.self.now c.known.ensures) ok in_rows in_lanes)
