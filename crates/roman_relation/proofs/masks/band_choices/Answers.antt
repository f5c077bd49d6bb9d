use Rattle.roman_relation.proofs.Common.{◌+◌, ◌*◌, length, sum_by, arith, below, is_listed, mask, sum_below_more}
use Rattle.roman_relation.proofs.Lanes.{words_rows}
use Rattle.roman_relation.proofs.masks.band_choices.Goals as goal

pub loop-a-preserved : goal.loop-a-preserved
loop-a-preserved g c =
    let A = g.J.Rules.arena c.args.joint.now in
    let n = g.J.Rules.lanes c.args.joint.now in
    let w = g.J.Rules.band c.args.joint.now in
    let gone = is_listed A c.args.order.now.list in
    let rows = words_rows A c.known.ensures.numbered _ _ _ c.requires.shaped c.words-words.ensures.alive in
    let counted = c.choices.ensures.counted c.args.y gone c.first_row-row.ensures rows in
    let more = sum_below_more (λ a. sum_by (λ i. sum_by (λ lane. length (mask A gone ((c.args.y * w + i) * n + lane) a)) (below n)) (below w)) c.loop-a.a in
    record {
      counted = omega (arith, c.loop-a.invariant.counted, c.from-count.ensures, counted, more);
      bound = omega (arith, c.loop-a.invariant.bound, c.from-count.ensures, c.choices.ensures.few);
    }
