use Rattle.roman_joint.proofs.Common.{◌<◌, ◌*◌, ◌/◌, length, get_or, sym, arith, TargetView, get_or_from_slice_get, slice_get-get_or, div_below, product_of, product_positive, sizes_of, system_of}
use Rattle.roman_joint.proofs.SplitLemmas.{joint_sizes}
use Rattle.roman_joint.proofs.joint.Joint.target_view_at.Goals as goal

pub returns : goal.returns
returns c =
    let s = system_of c.args.self.now in
    let P = product_of (sizes_of s).seats in
    let below = div_below c.args.p P (s.target.states * s.env.states) (product_positive (sizes_of s).seats (joint_sizes c.args.self.now c.known.ensures).seats) c.requires in
    let l : c.args.p / P < length c.target_views.result.now = omega (arith, below, c.target_views.ensures.long) in
    let views = c.target_views.result.now in
    let view : TargetView = get_or views (c.args.p / P) (record { target = 0; env = 0; allowed = 0; leading = 0 }) in
    rw (c.env_stride.ensures, c.shape.ensures) (c.target_views.ensures.each (c.args.p / P) view l (sym (get_or_from_slice_get views (c.args.p / P) view view (slice_get-get_or views (c.args.p / P) _ l))))
