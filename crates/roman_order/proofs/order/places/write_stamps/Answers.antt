use Rattle.roman_order.proofs.Common.{subst, arith, ◌*◌, ◌+◌, sym, drop, length-append, AreStamps, entries_of, set_lanes, drop_of_length-le}
use Rattle.roman_order.proofs.Batches.{length-entries_at}
use Rattle.roman_order.proofs.Stamps.{stamps_of, with_stamps-lanes}
use Rattle.roman_order.proofs.order.places.write_stamps.Goals as goal

pub loop-j-preserved : goal.loop-j-preserved
loop-j-preserved c =
    let e = c.batch_in-batch.result in
    let rest = entries_of c.args.lanes (drop (c.loop-j.j + 1) c.args.batches.now) in
    grind (arith, length-append, length-entries_at, (with_stamps-lanes (e.row * c.args.lanes) e.reason c.loop-j.place (set_lanes e.lanes) rest c.loop-j.stamps))

pub returns : goal.returns
returns c =
    let all = rw (drop_of_length-le c.args.batches.now {i = c.loop-j.j} (omega arith)) at c.loop-j.invariant.stamped in
    subst (AreStamps (entries_of c.args.lanes c.args.batches.now)) (sym all) (stamps_of _ _ c.requires.apart c.requires.blank)
