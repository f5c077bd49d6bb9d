use Rattle.roman_repair.proofs.Common.{arith, readings_of-allowed}
use Rattle.roman_repair.proofs.BandAnswers.{full_lane, kept_full}
use Rattle.roman_repair.proofs.band_probe.probe_band.Goals as goal

pub returns-in-None-clause-passes : goal.returns-in-None-clause-passes
returns-in-None-clause-passes g c gone words i lane h l =
    rw (c.in-None.is, c.in-Final.is)
    (kept_full _ _ _ _ _ _ _ i lane _ (c.fill.ensures.after (λ y same. same)) c.requires.long c.lanes.ensures.value c.lanes.ensures.few.1 (c.unfine_band.ensures.unfine c.args.y c.first_row-row.ensures) h l)

pub returns-in-Final-clause-passes : goal.returns-in-Final-clause-passes
returns-in-Final-clause-passes g c gone words i lane h l =
    rw (c.in-Some.is, c.in-Final.is)
    (full_lane c.fill.new.self _ _ i lane (c.fill.ensures.after (λ y same. same)) (omega (arith, c.requires.long, h)) c.lanes.ensures.few.1 (omega (arith, c.lanes.ensures.value, l)))

pub returns-in-None-alone-clause-passes : goal.returns-in-None-alone-clause-passes
returns-in-None-alone-clause-passes g c gone words i lane h l =
    rw (c.in-None-alone.is, c.in-Act.is)
    (kept_full _ _ _ _ _ _ _ i lane _ (c.fill.ensures.after (λ y same. same)) c.requires.long c.lanes.ensures.value c.lanes.ensures.few.1 (c.unserved_band.ensures.lost c.args.y gone c.first_row-row.ensures words) h l)

pub returns-in-None-alone-clause-cost : goal.returns-in-None-alone-clause-cost
returns-in-None-alone-clause-cost g c p possible =
    let allowed = rw c.in-Act.is at possible in
    rw (c.in-None-alone.is, c.in-Act.is) (omega (arith, c.tick_ready.ensures, readings_of-allowed (g.J.Rules.arena c.args.joint.now) p c.in-Act.a allowed))

pub returns-clause-passes : goal.returns-clause-passes
returns-clause-passes g c gone words i lane h l =
    rw (c.in-Some-alone.is, c.in-Act.is)
    (kept_full _ _ _ _ _ _ _ i lane _ (c.fill.ensures.after (λ y same. same)) c.requires.long c.lanes.ensures.value c.lanes.ensures.few.1 (c.clear_good.ensures.left c.args.y gone c.first_row-row.ensures words) h l)
