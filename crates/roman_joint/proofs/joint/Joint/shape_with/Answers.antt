use Rattle.roman_joint.proofs.Common.{◌≡◌, ◌≤◌, List, length, get_or, sym, ap, ◌∙◌, subst, Beh, IsBeh, Join, after, NamedBeh, beh_at, seat_of, system_of, cells, IsOverEnv, IsSome}
use Rattle.roman_joint.proofs.SeatLemmas.{seat_beh_read}
use Rattle.roman_joint.proofs.SeatChanges.{joined_known, joined_sizes, joined_test}
use Rattle.roman_joint.proofs.joint.Joint.shape_with.Goals as goal

pub returns : goal.returns
returns c =
    let n = c.args.self.now in
    let seat = c.args.seat.now in
    let y = c.index-catalogue-seat.result in
    let at : y ≡ get_or n.catalogue seat.behaviour y = c.index-catalogue-seat.is ∙ ap (λ (ys : List NamedBeh). get_or ys seat.behaviour y) c.catalogue.ensures in
    let read : y.beh ≡ beh_at n.catalogue seat.behaviour = seat_beh_read n.catalogue seat.behaviour y c.requires.behaviour at in
    let over : IsOverEnv n.environment y = subst (IsOverEnv n.environment) (sym at) (c.known.ensures.catalogue seat.behaviour y c.requires.behaviour) in
    let beh : IsBeh n.environment.env (beh_at n.catalogue seat.behaviour) = subst (IsBeh n.environment.env) read (c.states.ensures.known n.environment.env (sym over.0) (sym over.1)) in
    let size = c.len-size.ensures.len ∙ (ap length c.states.ensures.names ∙ (c.states.ensures.count ∙ ap (λ (b : Beh). b.states) read)) in
    let actions = rw c.environment.ensures at (c.len.ensures.len ∙ (ap length c.actions.ensures.names ∙ c.actions.ensures.count)) in
    let test = joined_test n seat c.shape.result.now c.len-size.result c.len.result c.known.ensures c.shape.ensures size actions in
    let grows = rw c.limit.ensures at c.grow.ensures.fits in
    let fits : IsSome c.grow.result → cells (after (Join (seat_of n.catalogue seat)) (system_of n)) ≤ n.limit = λ some. test.0 (grows.0 some) in
    record {
      fits = (fits, λ l. grows.1 (test.1 l));
      shape = rw (c.shape.ensures, size, joined_sizes n seat) at c.grow.ensures.shape;
      known = λ some. joined_known n seat c.known.ensures c.requires.room c.requires.behaviour beh c.requires.name (fits some);
    }
