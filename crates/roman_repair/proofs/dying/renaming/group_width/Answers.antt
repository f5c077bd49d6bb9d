use Rattle.roman_repair.proofs.Common.{◌+◌, ◌≤◌, sym, subst, arith, low_of, IsGroup, stride_of}
use Rattle.roman_repair.proofs.DeathGroups.{group_from, group_few}
use Rattle.roman_repair.proofs.dying.renaming.group_width.Goals as goal

pub returns-then-k-low-clause-group : goal.returns-then-k-low-clause-group
returns-then-k-low-clause-group c =
    let n = c.args.shape.now in
    subst (IsGroup n.seats c.args.k) (sym c.lanes.ensures.value) (group_from n.seats c.args.k (low_of n.seats) c.known.ensures.seats (omega (arith, c.if-k-low.true, c.low.ensures.value)) c.requires (omega arith))

pub returns-clause-group : goal.returns-clause-group
returns-clause-group c =
    let n = c.args.shape.now in
    let past : low_of n.seats ≤ c.args.k = omega (arith, c.if-k-low.false, c.low.ensures.value) in
    subst (IsGroup n.seats c.args.k) (sym c.stride.ensures) (group_from n.seats c.args.k (c.args.k + 1) c.known.ensures.seats (omega arith) c.requires (omega (arith, past)))

pub returns-clause-few : goal.returns-clause-few
returns-clause-few c =
    let n = c.args.shape.now in
    let past : low_of n.seats ≤ c.args.k = omega (arith, c.if-k-low.false, c.low.ensures.value) in
    let few = group_few n.seats c.args.k (stride_of n c.args.k) c.known.ensures.seats (group_from n.seats c.args.k (c.args.k + 1) c.known.ensures.seats (omega arith) c.requires (omega (arith, past))) in
    (omega (arith, few.0, c.stride.ensures), omega (arith, few.1, c.stride.ensures))
