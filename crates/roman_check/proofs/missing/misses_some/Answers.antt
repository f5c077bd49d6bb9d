use Rattle.roman_check.proofs.Common.{◌+◌, ◌*◌, ◌∙◌, length, arith, subst, ap, bit_or, is_listed, HasLanes, could_be_by, row_fits}
use Rattle.roman_check.proofs.ReasonLemmas.{all_probed, copied, final_lanes, more_lanes, none_left}
use Rattle.roman_check.proofs.missing.misses_some.Goals as goal

pub first_row-row-requires : goal.first_row-row-requires
first_row-row-requires g c =
    omega (arith, row_fits (c.args.y * g.J.Rules.band c.args.joint.now) (g.J.Rules.lanes c.args.joint.now) (length c.args.words.now) (g.J.Rules.lanes c.args.joint.now) (omega (arith, c.requires.band, c.known.ensures.band.0)) (omega arith), c.requires.room, c.known.ensures.lanes.0)

pub returns-then-are_clear-clause-none : goal.returns-then-are_clear-clause-none
returns-then-are_clear-clause-none g c clear L rows i h =
    let A = g.J.Rules.arena c.args.joint.now in
    let left = copied _ (c.args.y * g.J.Rules.band c.args.joint.now) _ i _ (is_listed A L) _ rows (omega (arith, h, c.requires.band)) (ap (λ m. c.args.y * m) c.band.ensures.value) (c.copy_rows.ensures.each i (omega (arith, h, c.requires.left))) in
    none_left A L _ _ _ _ left (λ lane off. off) (c.are_clear.ensures c.if-are_clear.true i (omega (arith, h, c.requires.left, c.copy_rows.ensures.long)))

pub loop-a-init : goal.loop-a-init
loop-a-init g c = record {
  long = c.unfine_band.ensures.long ∙ c.copy_rows.ensures.long;
  none = λ L rows i h.
      let A = g.J.Rules.arena c.args.joint.now in
      let left = copied _ (c.args.y * g.J.Rules.band c.args.joint.now) _ i _ (is_listed A L) _ rows (omega (arith, h, c.requires.band)) (ap (λ m. c.args.y * m) c.band.ensures.value) (c.copy_rows.ensures.each i (omega (arith, h, c.requires.left))) in
      let keeps = c.unfine_band.ensures.unfine c.args.y c.first_row-row.ensures in
      subst (HasLanes _ _ (could_be_by A L 0)) (c.are_clear-2.ensures c.if-not-are_clear.false i (omega (arith, h, c.requires.left, c.unfine_band.ensures.long, c.copy_rows.ensures.long))) (final_lanes A L _ _ _ _ left (keeps.none i) (λ lane. keeps.each i lane h));
}

pub loop-a-preserved : goal.loop-a-preserved
loop-a-preserved g c = record {
  long = c.unserved_band.ensures.long ∙ (c.copy_rows-in-loop-a.ensures.long ∙ c.loop-a.invariant.long);
  none = λ L rows i h.
      let A = g.J.Rules.arena c.args.joint.now in
      let left = copied _ (c.args.y * g.J.Rules.band c.args.joint.now) _ i _ (is_listed A L) _ rows (omega (arith, h, c.requires.band)) (ap (λ m. c.args.y * m) c.band.ensures.value)
      (c.copy_rows-in-loop-a.ensures.each i (omega (arith, h, c.requires.left, c.loop-a.invariant.long))) in
      let keeps = c.unserved_band.ensures.lost c.args.y (is_listed A L) c.first_row-row.ensures rows in
      let empty = c.are_clear-in-loop-a.ensures c.if-not-are_clear-2.false i (omega (arith, h, c.requires.left, c.unserved_band.ensures.long, c.copy_rows-in-loop-a.ensures.long, c.loop-a.invariant.long)) in
      subst (HasLanes _ _ (could_be_by A L (c.loop-a.a + 1))) (ap (bit_or 0) empty) (more_lanes A L _ _ _ _ left (keeps.none i) 0 c.loop-a.a (c.loop-a.invariant.none L rows i h) (λ lane. keeps.each i lane h));
}

pub returns-clause-none : goal.returns-clause-none
returns-clause-none g c clear L rows i h = all_probed (g.J.Rules.arena c.args.joint.now) L _ _ _ c.loop-a.a (c.loop-a.invariant.none L rows i h) (omega (arith, c.loop-a.auto.a-end, c.loop-a-test.false, c.actions-a-end.ensures))
