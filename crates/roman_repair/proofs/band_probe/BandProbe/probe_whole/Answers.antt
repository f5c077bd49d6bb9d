use Rattle.roman_repair.proofs.Common.{◌≡◌, ◌+◌, ◌*◌, ◌/◌, ◌%◌, ◌-◌, ◌<◌, refl, sym, ap, ◌∙◌, arith, div-add-mod', mod_below, passes}
use Rattle.roman_repair.proofs.BandAnswers.{band_before, row_held}
use Rattle.roman_repair.proofs.band_probe.BandProbe.probe_whole.Goals as goal

pub probe_band-requires-clause-band : goal.probe_band-requires-clause-band
probe_band-requires-clause-band g c =
    let n = g.J.Rules.lanes c.args.joint.now in
    let w = g.J.Rules.band c.args.joint.now in
    let same = ap (λ b. c.args.batch.row / b * w * n) c.band-band.ensures.value in
    omega (arith, same, band_before n w c.args.batch.row _ c.requires.row)

pub returns : goal.returns
returns g c =
    let n = g.J.Rules.lanes c.args.joint.now in
    let w = g.J.Rules.band c.args.joint.now in
    let e = c.args.batch in
    let b = c.band-band.result in
    let i = e.row % b in
    let h : i < w = omega (arith, mod_below e.row b c.band-band.ensures.few.0, c.band-band.ensures.value) in
    let x : e.row / b * w + i ≡ e.row = ap (λ m. e.row / b * m + i) (sym c.band-band.ensures.value) ∙ div-add-mod' e.row b in
    let first : e.row - e.row % b ≡ e.row / b * w = omega (arith, div-add-mod' e.row b, ap (λ m. e.row / b * m) c.band-band.ensures.value) in
    record {
      holds = λ gone words lane l. row_held c.probe_band.new.held _ i lane (omega (arith, h, c.probe_band.ensures.long)) ∙ c.probe_band.ensures.passes gone words i lane h l ∙ ap (λ m. passes (g.J.Rules.arena c.args.joint.now) gone c.args.self.now.alone (m * n + lane) e.reason) x;
      known = λ gone words known. record {
        row = known.row;
        rows = λ j m. record {
          each = λ lane l on.
              let inner : j < w = omega (arith, m, c.band-band.ensures.value) in
              rw first (sym (row_held c.probe_band.new.held _ j lane (omega (arith, inner, c.probe_band.ensures.long)) ∙ c.probe_band.ensures.passes gone words j lane inner l) ∙ on);
        };
      };
      alone = refl;
      cost = λ lane l possible. c.probe_band.ensures.cost (e.row * n + lane) possible;
    }
