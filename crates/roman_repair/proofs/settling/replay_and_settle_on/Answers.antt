use Rattle.roman_repair.proofs.Common.{[], ◌*◌, sym, ap, ◌∙◌, subst, arith, Some, ◌≡◌, Board, IsShaped, lanes_in, replay_grown, list_grown, candidates, AreCandidates, readings_of_entries, with_replay, count, sizes_of, system_of, NamedSys, length-below, room_for_pairs, readings, arena_of, IsSettledOn, MayProbeAlone, joint_numbered}
use Rattle.roman_repair.proofs.Keeping.{candidates_readings}
use Rattle.roman_repair.proofs.settling.replay_and_settle_on.Given as given
use Rattle.roman_repair.proofs.settling.replay_and_settle_on.Goals as goal
use Rattle.roman_repair.proofs.settling.replay_and_settle_on.Goals.{After-reopen, After-replay}

pub reopen-requires-clause-pairs : goal.reopen-requires-clause-pairs
reopen-requires-clause-pairs g c =
    let wide = ap (λ m. c.rows-rows.result * m) c.lanes.ensures.value in
    omega (arith, wide, c.rows-rows.ensures, room_for_pairs _ _ c.known.ensures c.requires.caps, length-below (count (sizes_of (system_of c.args.relation.now.joint))))

-- the entries wait in the order of the joint's shape
reopened : (g : given.Over) (c : After-reopen g) → IsShaped (arena_of c.args.relation.now.joint) (lanes_in (system_of c.args.relation.now.joint)) c.reopen.new.self
reopened g c = grind (arith, length-below)

-- the replay of the waiting entries is that of the entries to which the old list grows
replayed : (g : given.Over) (c : After-replay g) → c.replay.new.order.list ≡ replay_grown (system_of c.args.relation.now.joint) c.args.newcomer c.args.relation.now.order
replayed g c = c.replay.ensures.list ∙ ap (λ (b : Board). with_replay (arena_of c.args.relation.now.joint) b.list (candidates c.args.newcomer.states b)) c.reopen.ensures.moved

pub replay-requires : goal.replay-requires
replay-requires g c =
    let A = arena_of c.args.relation.now.joint in
    let list = ap (λ (b : Board). b.list) c.reopen.ensures.moved in
    let those = ap (λ (b : Board). candidates c.args.newcomer.states b) (sym c.reopen.ensures.moved) in
    record {
      shaped = reopened g (goal.at.replay-requires g c).After-reopen;
      slices = c.requires.ready.slices;
      lanes = ap (λ (b : Board). b.waiting_lanes) c.reopen.ensures.moved ∙ c.requires.ready.lanes;
      are = rw list (subst (AreCandidates A []) those c.requires.ready.are);
      may = rw list (subst (MayProbeAlone A (Some c.args.newcomer.k) []) those c.requires.ready.may);
    }

pub settle_on-requires : goal.settle_on-requires
settle_on-requires g c =
    let shaped = reopened g (goal.at.settle_on-requires g c).After-reopen in
    record { valid = rw (replayed g (goal.at.settle_on-requires g c).After-replay) c.requires.ready.valid; shaped = rw c.replay.ensures.rest (record { pairs = shaped.pairs; lanes = shaped.lanes }); caps = grind arith; idle = grind arith }

pub returns : goal.returns
returns g c =
    let n = c.args.relation.now.joint in
    let few = candidates_readings (arena_of n) [] (list_grown c.args.newcomer c.args.relation.now.order) (joint_numbered n c.known.ensures) c.requires.ready.are in
    let same = ap (λ (m : NamedSys). readings (arena_of m)) c.settle_on.ensures.settled.joint in
    let those = ap (λ (b : Board). candidates c.args.newcomer.states b) c.reopen.ensures.moved in
    record {
      settled = subst (λ L. IsSettledOn n L c.settle_on.new.relation.joint c.settle_on.new.relation.order c.settle_on.result) (replayed g (goal.at.returns g c).After-replay) c.settle_on.ensures.settled;
      cost = omega (arith, few, same, c.replay.ensures.cost, c.settle_on.ensures.cost, ap (readings_of_entries (arena_of n)) those);
    }
