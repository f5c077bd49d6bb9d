use Rattle.roman_joint.proofs.Common.{length_rows, IsSizes-rows, lanes_few, env_rows_are, lanes_positive, low_of-le, ◌≡◌, ◌/◌, ap, arith, length, ltb, refl, ◌-◌, ◌∙◌, ◌≤◌, row_sizes, env_rows_of, lanes_of, target_rows_of, env_stride_of, target_stride_of, le-ltb, lt-ltb, set}
use Rattle.roman_joint.proofs.SplitLemmas.{quotient, stride_rows, target_rows_are}
use Rattle.roman_joint.proofs.GoodLemmas.{env_rows_positive}
use Rattle.roman_joint.proofs.layout.layout_of.Goals as goal

pub returns : goal.returns
returns c =
    let n = c.args.shape.now in
    let i = c.loop-k.invariant in
    let end : length n.seats ≤ c.loop-k.k = omega arith in
    let low = c.low-low.ensures.value in
    let lanes = c.lanes-lanes.ensures.value in
    let pos = lanes_positive n.seats c.known.ensures.seats in
    let env : c.env_stride.result / c.lanes-lanes.result ≡ env_rows_of n = rw (c.env_stride.ensures, lanes) (quotient (env_stride_of n) (env_rows_of n) (lanes_of n.seats) pos (env_rows_are n)) in
    let mid = c.band-mid.ensures.first in
    let band = c.band-mid.ensures.width in
    record {
      ok = c.known.ensures;
      low = low;
      mid = mid;
      order = (omega (arith, low, mid, low_of-le (row_sizes n).seats, length_rows n), omega (arith, low, low_of-le n.seats));
      band = band;
      band_range = (omega (arith, band, lanes_positive (row_sizes n).seats (IsSizes-rows n c.known.ensures).seats), omega (arith, band, lanes_few (row_sizes n).seats));
      lanes = lanes;
      lanes_range = c.lanes-lanes.ensures.few;
      full = λ lane. c.all_lanes.ensures lane ∙ ap (ltb lane) lanes;
      rows = c.rows.ensures;
      env = env;
      env_some = omega (arith, env, env_rows_positive n c.known.ensures);
      target = rw (c.target_stride.ensures, lanes) (quotient (target_stride_of n) (target_rows_of n) (lanes_of n.seats) pos (target_rows_are n));
      before = λ k l.
          let is = i.set k (omega (arith, l, end, low_of-le n.seats)) in
          rw (is, lt-ltb k c.low-low.result (omega (arith, l, low)), lanes) (stride_rows n k c.known.ensures l);
      within = λ k l m. rw (i.set k (omega (arith, m, end)), le-ltb k c.low-low.result (omega (arith, l, low))) refl;
      sizes = λ k l. i.sizes k (omega (arith, l, end));
      firsts = λ k lane l m. i.firsts k lane (omega (arith, l, end)) m;
    }
