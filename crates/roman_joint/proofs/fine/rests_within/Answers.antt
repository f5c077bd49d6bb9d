use Rattle.roman_joint.proofs.Common.{◌/◌, ◌&&◌, slice_get, slice_index, ap, ◌∙◌, arith, le-ltb, lt-ltb, mod_below, sizes_of, stride_of, AreSizes-index, system_of, lane_state_of, may_rest, on_zero}
use Rattle.roman_joint.proofs.GoodLemmas.{in_sizes, one_more, state_is}
use Rattle.roman_joint.proofs.fine.rests_within.Goals as goal

pub state_lanes-in_state-requires-clause-state : goal.state_lanes-in_state-requires-clause-state
state_lanes-in_state-requires-clause-state c = rw c.shape-shape.ensures (omega (arith, c.layout-rows.ensures.rows.sizes c.args.k (in_sizes c.args.joint.now c.args.k c.requires.seat)))

pub may_rest-rests-requires-clause-state : goal.may_rest-rests-requires-clause-state
may_rest-rests-requires-clause-state c = omega (arith, c.layout-rows.ensures.rows.sizes c.args.k (in_sizes c.args.joint.now c.args.k c.requires.seat))

pub loop-b-init : goal.loop-b-init
loop-b-init c lane l = grind (arith, le-ltb, on_zero)

pub loop-b-preserved : goal.loop-b-preserved
loop-b-preserved c lane l = grind (arith, one_more, state_is)

pub returns : goal.returns
returns c lane l =
    let n = c.args.joint.now in
    let s = system_of n in
    let m = lane_state_of (sizes_of s) c.args.k lane in
    let some = (AreSizes-index (sizes_of s).seats c.args.k c.layout-rows.ensures.rows.ok.seats (in_sizes c.args.joint.now c.args.k c.requires.seat)).0 in
    let less = mod_below (lane / stride_of (sizes_of s) c.args.k) (slice_index (sizes_of s).seats c.args.k) some in
    c.loop-b.invariant lane l ∙ ap (λ t. t && may_rest (slice_get s.seats c.args.k) m) (lt-ltb m c.loop-b.b (omega (arith, less, c.layout-rows.ensures.rows.sizes c.args.k (in_sizes c.args.joint.now c.args.k c.requires.seat))))
