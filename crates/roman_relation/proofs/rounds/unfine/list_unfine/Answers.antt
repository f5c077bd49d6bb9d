use Rattle.roman_relation.proofs.Common.{◌*◌, inl, inr, ap, ◌∙◌, arith, cases_lt, Board}
use Rattle.roman_relation.proofs.Bands.{band_inside, pair_past}
use Rattle.roman_relation.proofs.Beginnings.{begins_unlisted, goes_on_on}
use Rattle.roman_relation.proofs.rounds.unfine.list_unfine.Goals as goal

pub list_unfine_band-requires-clause-band : goal.list_unfine_band-requires-clause-band
list_unfine_band-requires-clause-band g c =
    omega (arith, band_inside _ _ _ _ _ c.args.order.now c.requires.shaped c.known.ensures.lanes.0 c.bands-y-end.ensures c.loop-y-test.true, ap (λ (d : Board). d.rows) c.loop-y.invariant.goes_on.rest)

pub loop-y-preserved : goal.loop-y-preserved
loop-y-preserved g c = record {
  goes_on = goes_on_on _ _ _ _ c.loop-y.invariant.goes_on c.list_unfine_band.ensures.goes_on;
  long = c.list_unfine_band.ensures.long ∙ c.loop-y.invariant.long;
  fine = λ p l off. elim (cases_lt p (c.loop-y.y * g.J.Rules.band c.args.joint.now * g.J.Rules.lanes c.args.joint.now)) [
    | inl h ↦ c.loop-y.invariant.fine p h (begins_unlisted (g.J.Rules.arena c.args.joint.now) _ _ p c.list_unfine_band.ensures.goes_on.begins off)
    | inr h ↦
        let (i, lane, i_in, lane_in, place) = pair_past _ _ _ p c.known.ensures.lanes.0 h l in
        rw (← place) (c.list_unfine_band.ensures.fine i lane i_in lane_in (rw place off))
  ];
  because = λ p t. elim (c.list_unfine_band.ensures.because p t) [ inl old ↦ c.loop-y.invariant.because p old | inr fails ↦ inr fails ];
}
