use Rattle.roman_joint.proofs.Common.{arith, false, true, ◌-◌, sizes_of, system_of, take_all}
use Rattle.roman_joint.proofs.SplitLemmas.{row_stride}
use Rattle.roman_joint.proofs.BandLemmas.{mid_low}
use Rattle.roman_joint.proofs.MarkLemmas.{marks_next}
use Rattle.roman_joint.proofs.marks.mark_seat.Goals as goal

pub prev_states-states-requires-clause-state : goal.prev_states-states-requires-clause-state
prev_states-states-requires-clause-state g c = c.requires.arrival.row.1.state_range c.args.k (mid_low (system_of c.args.by.now.joint.now) c.args.k c.requires.seat)

pub loop-b-preserved : goal.loop-b-preserved
loop-b-preserved g c = marks_next _ _ c.prev_states-states.result.now c.loop-b.b-index _ _ _ _ _ _ c.loop-b-test.true c.loop-b.invariant c.mark_moved.ensures

pub returns : goal.returns
returns g c =
    let n = c.args.by.now.joint.now in
    let s = system_of n in
    let laid = c.layout-rows.ensures.rows in
    let stride = row_stride (sizes_of s) c.layout-rows.result.now c.args.k laid (mid_low s c.args.k c.requires.seat) in
    let all = take_all c.loop-b.b-index c.prev_states-states.result.now c.loop-b-test.false in
    rw (all, c.prev_states-states.ensures.prev, c.times-taken.ensures.value, stride, laid.band) at c.loop-b.invariant
