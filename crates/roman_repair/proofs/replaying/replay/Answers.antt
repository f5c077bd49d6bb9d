use Rattle.roman_repair.proofs.Common.{[], ◌++◌, refl, sym, ap, ◌∙◌, subst, arith, is_listed, Board, MayProbeAlone, candidates, IsBatch}
use Rattle.roman_repair.proofs.Growing.{next_ready, replay_on, replayed_all}
use Rattle.roman_repair.proofs.Replayed.{stays}
use Rattle.roman_repair.proofs.replaying.replay.Goals as goal

pub replay-init : goal.replay-init
replay-init g c = record {
  goes = stays _ _ _ _ _ _ (record {
    candidates = c.requires.are;
    may = subst (λ o. MayProbeAlone (g.J.Rules.arena c.args.joint.now) o c.args.order.now.list (candidates c.args.newcomer.states c.args.order.now)) (sym c.nothing-probe.ensures.alone) c.requires.may;
    known = c.nothing-probe.ensures.known _ _ (is_listed (g.J.Rules.arena c.args.joint.now) c.args.order.now.list);
  });
  rest = refl;
}

pub keep_grown-requires : goal.keep_grown-requires
keep_grown-requires g c =
    let next = c.next_waiting_batch.new.self in
    let wide = ap (λ (b : Board). b.waiting_lanes) c.replay.invariant.rest ∙ c.requires.lanes in
    record {
      ready = record {
        shaped = grind arith;
        batch = subst (λ m. IsBatch m c.in-Some.batch) wide c.in-Some.ensures.batch;
        ready = (candidates c.args.newcomer.states next, next_ready _ _ c.args.newcomer c.replay.order next _ c.in-Some.batch wide c.in-Some.ensures.first c.next_waiting_batch.ensures.rest c.replay.invariant.goes.can);
      };
      slices = c.requires.slices;
    }

pub replay-preserved : goal.replay-preserved
replay-preserved g c = record {
  goes = replay_on _ _ c.args.newcomer c.args.order.now c.replay.order c.next_waiting_batch.new.self _ _ _ c.in-Some.batch _ _ _ (ap (λ (b : Board). b.waiting_lanes) c.replay.invariant.rest ∙ c.requires.lanes) c.in-Some.ensures.first c.next_waiting_batch.ensures.rest c.keep_grown.ensures.replayed c.keep_grown.ensures.rest c.replay.invariant.goes;
  rest = grind arith;
}

pub returns : goal.returns
returns g c = replayed_all _ _ c.args.newcomer c.args.order.now _ _ _ _ _ c.replay.invariant.goes c.replay.invariant.rest c.in_default.ensures.none
