use Rattle.roman_joint.proofs.Common.{◌≡◌, ◌*◌, ◌^◌, ◌%◌, ◌<◌, ◌&&◌, slice_index, ap, ap₂, ◌∙◌, arith, and-true, stride_of, lanes_few, is_on, lane_has_state, on_and}
use Rattle.roman_joint.proofs.LeadLemmas.{stride_positive}
use Rattle.roman_joint.proofs.GoodLemmas.{full_on, off_rows, state_shift}
use Rattle.roman_joint.proofs.states.state_lanes.Goals as goal

pub returns : goal.returns
returns c = record {
  each = λ lane l.
      let n = c.args.shape.now in
      let r = c.args.rows.now in
      let k = c.args.k in
      let laid = c.requires.rows in
      let size = slice_index n.seats k in
      let st = stride_of n k in
      let few : lane < 64 = omega (arith, lanes_few n.seats) in
      let from : c.from.result * slice_index r.strides k ≡ c.args.b * st = ap₂ (λ m u. m * u) c.from.ensures (laid.within k c.requires.within c.requires.seat) in
      on_and (slice_index r.firsts k * 2 ^ (c.from.result * slice_index r.strides k) % 2 ^ 64) r.full lane
      ∙ (ap₂ (λ a b. a && b) (ap (λ m. is_on (slice_index r.firsts k * 2 ^ m % 2 ^ 64) lane) from
      ∙ state_shift (slice_index r.firsts k) c.args.b st size lane (λ j m. laid.firsts k j c.requires.seat m) (stride_positive n k laid.ok) c.requires.state few) (full_on n r lane laid l)
      ∙ and-true (lane_has_state st size c.args.b lane));
  rest = λ lane past. grind (arith, off_rows);
}
