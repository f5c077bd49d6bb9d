use Rattle.roman_repair.proofs.Common.{◌*◌, ◌/◌, ap, ◌∙◌, arith, inl, inr, cases_lt, both_ways}
use Rattle.roman_repair.proofs.Fronts.{fewer_lanes}
use Rattle.roman_repair.proofs.Growing.{sliced, grown_first, grown_row, spread_below, spread_list, spread_some}
use Rattle.roman_repair.proofs.replaying.first_grown.Goals as goal

pub overflow_mul-grown : goal.overflow_mul-grown
overflow_mul-grown g c =
    let n = g.J.Rules.lanes c.args.joint.now in
    let is = sliced n c.args.newcomer.lanes c.args.newcomer.states c.lanes.result c.from-width.result c.lanes.ensures.value c.from-width.ensures c.requires.slices c.known.ensures.lanes.0 c.known.ensures.lanes.1 in
    omega (arith, grown_row _ n _ _ _ _ c.args.batch.row c.args.batch.lanes _ _ _ c.args.batch.reason is c.first_group-i.ensures c.known.ensures.lanes.0 c.requires.nodes, c.known.ensures.numbered.few_nodes)

pub overflow_add-grown : goal.overflow_add-grown
overflow_add-grown g c =
    let n = g.J.Rules.lanes c.args.joint.now in
    let is = sliced n c.args.newcomer.lanes c.args.newcomer.states c.lanes.result c.from-width.result c.lanes.ensures.value c.from-width.ensures c.requires.slices c.known.ensures.lanes.0 c.known.ensures.lanes.1 in
    omega (arith, grown_row _ n _ _ _ _ c.args.batch.row c.args.batch.lanes _ _ _ c.args.batch.reason is c.first_group-i.ensures c.known.ensures.lanes.0 c.requires.nodes, c.known.ensures.numbered.few_nodes)

pub returns : goal.returns
returns g c =
    let n = g.J.Rules.lanes c.args.joint.now in
    let slices = c.lanes.result / c.from-width.result in
    let (i, group, rest) = c.first_group-i.result in
    let is = sliced n c.args.newcomer.lanes c.args.newcomer.states c.lanes.result c.from-width.result c.lanes.ensures.value c.from-width.ensures c.requires.slices c.known.ensures.lanes.0 c.known.ensures.lanes.1 in
    let first = c.first_group-i.ensures in
    let spread = spread_list group c.spread_lanes.result slices c.from-width.result (omega (arith, is.fits, ap (λ w. slices * w) c.from-width.ensures)) c.spread_lanes.ensures ∙ ap (spread_below group slices) c.from-width.ensures in
    record {
      batch = record {
        some = spread_some group c.spread_lanes.result slices c.args.newcomer.states is.some_states is.few (λ lane on. (first.in_group lane on).0) first.some spread;
        within = λ lane on. elim (cases_lt lane n) [ inl l ↦ l | inr past ↦ absurd (both_ways _ (c.spread_lanes.ensures.past lane (omega (arith, past, is.whole, ap (λ w. slices * w) c.from-width.ensures))) on) ];
      };
      parts = grown_first n c.args.newcomer.lanes c.args.newcomer.states slices _ c.args.batch.row c.args.batch.lanes i group rest c.spread_lanes.result c.args.batch.reason is first spread;
      in_rest = first.in_rest;
      fits = first.fits;
      fewer = fewer_lanes _ slices i group rest first;
    }
