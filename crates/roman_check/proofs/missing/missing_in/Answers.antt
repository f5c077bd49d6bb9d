use Rattle.roman_check.proofs.Common.{arith, is_listed}
use Rattle.roman_check.proofs.RemainLemmas.{without_within}
use Rattle.roman_check.proofs.ReasonLemmas.{all_probed, and_lanes, final_lanes, more_lanes}
use Rattle.roman_check.proofs.missing.missing_in.Goals as goal

pub loop-a-init : goal.loop-a-init
loop-a-init g c L rows =
    final_lanes (g.J.Rules.arena c.args.joint.now) L _ _ _ _ (rows.each c.args.x c.requires.row) (λ lane. without_within _ _ lane)
    (and_lanes _ _ _ _ _ (c.unfine.ensures c.args.x c.row-row.ensures))

pub loop-a-preserved : goal.loop-a-preserved
loop-a-preserved g c L rows =
    let A = g.J.Rules.arena c.args.joint.now in
    more_lanes A L _ _ _ _ (rows.each c.args.x c.requires.row) c.unserved-missing.ensures.within _ c.loop-a.a (c.loop-a.invariant L rows) (c.unserved-missing.ensures.lost c.args.x (is_listed A L) c.row-row.ensures rows)

pub returns : goal.returns
returns g c L rows = all_probed (g.J.Rules.arena c.args.joint.now) L _ _ _ c.loop-a.a (c.loop-a.invariant L rows) (omega (arith, c.loop-a.auto.a-end, c.loop-a-test.false, c.actions-a-end.ensures))
