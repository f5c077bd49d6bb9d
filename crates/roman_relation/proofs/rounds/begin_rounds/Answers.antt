use Rattle.roman_relation.proofs.Common.{◌∙◌, both_ways, lt-ltb}
use Rattle.roman_relation.proofs.Bands.{band_of}
use Rattle.roman_relation.proofs.Beginnings.{shaped_on}
use Rattle.roman_relation.proofs.Lanes.{words_rows}
use Rattle.roman_relation.proofs.rounds.begin_rounds.Goals as goal

pub returns-clause-ready : goal.returns-clause-ready
returns-clause-ready g c =
    let mid = c.list_unfine.new.order in
    let shaped = shaped_on _ _ _ mid c.requires.shaped c.list_unfine.ensures.goes_on in
    rw (c.mark_front.ensures.rest, c.keep_before.ensures.rest) (record {
      shaped = record { pairs = shaped.pairs; lanes = shaped.lanes };
      valid = c.list_unfine.ensures.goes_on.valid;
      kept = words_rows _ c.known.ensures.numbered _ mid c.keep_before.new.self.before shaped c.keep_before.ensures.kept;
      fine = c.list_unfine.ensures.fine;
      served = λ p a l unmarked off. absurd (both_ways _ unmarked (c.mark_front.ensures.marked _ ∙ lt-ltb _ c.bands.result (band_of _ _ _ _ p mid shaped c.known.ensures.lanes.0 c.known.ensures.band.0 c.bands.ensures l)));
    })
