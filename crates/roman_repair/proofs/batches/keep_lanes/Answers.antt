use Rattle.roman_repair.proofs.Replayed.{judge_rest, judged_all, judged_none, judged_on, no_entries}
use Rattle.roman_repair.proofs.batches.keep_lanes.Goals as goal

pub left-init : goal.left-init
left-init g c = judged_none _ _ _ c.args.batch _ _ _ c.requires.batch.some

pub keep_front-left-requires : goal.keep_front-left-requires
keep_front-left-requires g c = judge_rest _ _ _ _ _ _ _ _ _ _ _ _ c.requires c.left.invariant c.left-test.true

pub left-preserved : goal.left-preserved
left-preserved g c = judged_on _ _ _ _ _ _ _ _ _ _ _ _ _ _ _ c.left.invariant c.keep_front-left.ensures.judged

pub returns-clause-replayed : goal.returns-clause-replayed
returns-clause-replayed g c = judged_all _ _ _ _ _ _ _ _ _ _ _ c.left.invariant c.left-test.false (no_entries _ c.args.batch.row c.args.batch.reason)
