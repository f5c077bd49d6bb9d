use Rattle.roman_repair.proofs.Common.{◌*◌, ◌+◌, sym, ◌∙◌, arith, on_zero, mul-le-mul_left}
use Rattle.roman_repair.proofs.Growing.{stretch_lanes, stretch_some, spread_more}
use Rattle.roman_repair.proofs.lanes.spread_lanes.Goals as goal

pub lane-init : goal.lane-init
lane-init c = record {
  spread = record { each = λ lane i l h. on_zero (lane * c.args.width + i) ∙ sym (c.next_lane-lane.ensures.off lane (omega arith) l); past = λ bit far. on_zero bit };
  range = c.next_lane-lane.ensures.range.1;
  on = c.next_lane-lane.ensures.on;
}

pub lanes_between-spread-requires : goal.lanes_between-spread-requires
lanes_between-spread-requires c =
    let few = mul-le-mul_left c.args.lanes c.requires.0 in
    let next = stretch_some c.args.word c.lane.lane c.next_lane-end.result c.args.lanes c.ranges.word.fits (omega (arith, few, c.requires.1)) c.lane-test.true c.next_lane-end.ensures.range.0 (c.lane.invariant.on c.lane-test.true) c.next_lane-end.ensures.on in
    let begin = mul-le-mul_left c.args.width next in
    let end = mul-le-mul_left c.args.width c.next_lane-end.ensures.range.1 in
    (omega (arith, begin, c.requires.0), omega (arith, end, c.requires.1))

pub lane-smaller : goal.lane-smaller
lane-smaller c =
    let few = mul-le-mul_left c.args.lanes c.requires.0 in
    let next = stretch_some c.args.word c.lane.lane c.next_lane-end.result c.args.lanes c.ranges.word.fits (omega (arith, few, c.requires.1)) c.lane-test.true c.next_lane-end.ensures.range.0 (c.lane.invariant.on c.lane-test.true) c.next_lane-end.ensures.on in
    omega (arith, next, c.lane-test.true, c.next_lane-lane-in-lane.ensures.range)

pub lane-preserved : goal.lane-preserved
lane-preserved c =
    let end = c.next_lane-end in
    let next = c.next_lane-lane-in-lane in
    let few = mul-le-mul_left c.args.lanes c.requires.0 in
    record {
      spread = spread_more c.args.word c.lane.spread c.lanes_between-spread.result c.lane.lane end.result next.result c.args.width c.lane.invariant.spread c.lanes_between-spread.ensures end.ensures.range.0 next.ensures.range.0
          (stretch_lanes c.args.word c.lane.lane end.result c.ranges.word.fits (omega (arith, few, c.requires.1, end.ensures.range)) end.ensures.off) next.ensures.off;
      range = next.ensures.range.1;
      on = next.ensures.on;
    }
