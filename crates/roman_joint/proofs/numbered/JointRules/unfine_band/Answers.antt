use Rattle.roman_joint.proofs.Common.{◌≡◌, ◌+◌, ◌*◌, ◌<◌, true, not, ap, ◌∙◌, arith, length-set, is_on, on_zero, numbered, system_of, band_in}
use Rattle.roman_joint.proofs.BandLemmas.{keeps_all, keeps_more, keeps_nothing}
use Rattle.roman_joint.proofs.RestLemmas.{fine_band}
use Rattle.roman_joint.proofs.numbered.JointRules.unfine_band.Goals as goal

pub returns-then-not-is_final-clause-unfine : goal.returns-then-not-is_final-clause-unfine
returns-then-not-is_final-clause-unfine c y ok =
    let s = system_of c.args.self.now in
    keeps_nothing s (y * band_in s) (band_in s) (λ p. not ((numbered s).fine p)) c.args.left.now c.clear.new.words (omega (arith, c.requires.long)) c.clear.ensures.long c.clear.ensures.off
    (λ i lane l m. let fine = fine_band s c.args.row.now y i lane c.args.resting c.layout-rows.ensures.rows.ok ok l m c.requires.resting in grind arith)

pub returns-then-others-eq0-clause-unfine : goal.returns-then-others-eq0-clause-unfine
returns-then-others-eq0-clause-unfine c y ok =
    let s = system_of c.args.self.now in
    keeps_all s (y * band_in s) (band_in s) (λ p. not ((numbered s).fine p)) c.args.left.now (λ i lane h m.
    let fine = fine_band s c.args.row.now y i lane c.args.resting c.layout-rows.ensures.rows.ok ok h m c.requires.resting in
    let others = c.with_lanes-others.ensures lane in
    let none = ap (λ w. is_on w lane) c.if-others-eq0.true ∙ on_zero lane in
    grind (arith, on_zero))

pub loop-i-preserved : goal.loop-i-preserved
loop-i-preserved c =
    let s = system_of c.args.self.now in
    let i = c.loop-i.i in
    let within : i < band_in s = omega (arith, c.loop-i-test.true, c.layout-rows.ensures.rows.band) in
    record {
      long = length-set c.loop-i.left i c.less.result ∙ c.loop-i.invariant.long;
      unfine = λ y ok. keeps_more s (y * band_in s) i c.with_lanes-rests.result c.less.result (λ p. not ((numbered s).fine p)) c.args.left.now c.loop-i.left
          (omega (arith, within, c.loop-i.invariant.long, c.requires.long)) (c.loop-i.invariant.unfine y ok)
          (λ lane m.
          let fine = fine_band s c.args.row.now y i lane c.args.resting c.layout-rows.ensures.rows.ok ok within m c.requires.resting in
          let others = c.with_lanes-others.ensures lane in
          let rests = c.with_lanes-rests.ensures lane in
          grind (arith, on_zero))
          c.less.ensures;
    }

pub returns-clause-unfine : goal.returns-clause-unfine
returns-clause-unfine c y ok = grind arith
