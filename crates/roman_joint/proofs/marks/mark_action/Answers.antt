use Rattle.roman_joint.proofs.Common.{shr_and_one, sym, true, ◌-◌, ◌∙◌, system_of}
use Rattle.roman_joint.proofs.MarkLemmas.{marks_next, none_leads}
use Rattle.roman_joint.proofs.marks.mark_action.Goals as goal

pub returns-then-row-a-eq0 : goal.returns-then-row-a-eq0
returns-then-row-a-eq0 g c =
    let row = c.args.row.now in
    none_leads (system_of c.args.joint.now) row c.args.a _ _ c.requires.row.1.leading c.requires.action (sym (shr_and_one row.leading c.args.a) ∙ c.if-row-a-eq0.true)

pub loop-e-preserved : goal.loop-e-preserved
loop-e-preserved g c = marks_next _ _ c.prev-envs.result.now c.loop-e.e-index _ _ _ _ _ _ c.loop-e-test.true c.loop-e.invariant c.mark_env.ensures
