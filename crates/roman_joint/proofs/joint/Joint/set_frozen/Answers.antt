use Rattle.roman_joint.proofs.Common.{ap, length, sym, ◌-◌, ◌<◌, ◌∙◌, named_sys_in, with_frozen}
use Rattle.roman_joint.proofs.MoveLemmas.{moves_frozen}
use Rattle.roman_joint.proofs.SeatChanges.{is_joint, with_seats, frozen_set, frozen_known, frozen_sizes}
use Rattle.roman_joint.proofs.joint.Joint.set_frozen.Goals as goal

pub invariant_of-self : goal.invariant_of-self
invariant_of-self c =
    let n = named_sys_in c.self.inside in
    let k = c.args.k in
    let frozen = c.args.frozen in
    let within : k < length n.seats = rw (← c.self.view_is) at c.requires in
    is_joint _ (with_seats n (with_frozen n.seats k frozen)) (ap (with_seats n) (frozen_set n.seats k c.index_mut.result.now frozen c.index_mut.ensures.value)) (record {
      known = frozen_known n k frozen c.self.invariant.known within;
      shape = c.self.invariant.shape ∙ sym (frozen_sizes n k frozen);
      rows = rw (sym (frozen_sizes n k frozen)) at c.self.invariant.rows;
      moves = moves_frozen n k frozen c.self.inside.moves c.self.invariant.moves;
      target_views = c.self.invariant.target_views;
      room = c.self.invariant.room;
    })
