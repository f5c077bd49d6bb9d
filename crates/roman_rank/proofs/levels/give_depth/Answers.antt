use Rattle.roman_rank.proofs.Common.{◌<◌, length, refl, arith, as_entry}
use Rattle.roman_rank.proofs.Giving.{node_at, node_entry, gives_more}
use Rattle.roman_rank.proofs.levels.give_depth.Goals as goal

pub bounds-depths-pair : goal.bounds-depths-pair
bounds-depths-pair c =
    omega (arith, c.known.ensures.in_range c.read_on-pair.result.0 (node_entry c.args.order.now.list c.loop-i.i (as_entry c.read_on-pair.result) c.read_on-pair.ensures.entry), c.requires.pairs, c.loop-i.auto.depths)

pub loop-i-init : goal.loop-i-init
loop-i-init c = record {
  gives = record { given = λ i from to. absurd (omega arith); others = λ p apart. refl };
  within = omega arith;
  ahead = c.nothing-ahead.ensures c.args.order.now c.args.start;
}

pub loop-i-preserved : goal.loop-i-preserved
loop-i-preserved c =
    let L = c.args.order.now.list in
    let inside : c.read_on-pair.result.0 < length c.loop-i.depths =
    omega (arith, c.known.ensures.in_range c.read_on-pair.result.0 (node_entry L c.loop-i.i (as_entry c.read_on-pair.result) c.read_on-pair.ensures.entry), c.requires.pairs, c.loop-i.auto.depths) in
    record {
      gives = gives_more L c.args.start c.loop-i.i c.args.n c.read_on-pair.result.0 c.args.depths.now c.loop-i.depths (omega arith)
          (node_at L c.loop-i.i (as_entry c.read_on-pair.result) c.read_on-pair.ensures.entry) inside c.loop-i.invariant.gives;
      within = omega arith;
      ahead = c.read_on-pair.ensures.ahead;
    }
