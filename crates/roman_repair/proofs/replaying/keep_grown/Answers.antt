use Rattle.roman_repair.proofs.Common.{[], sym, ap, ◌∙◌, append-nil, flat_map, grown_numbers, some_lane, entries_grown}
use Rattle.roman_repair.proofs.Replayed.{judge_rest, judged_all, judged_none, judged_on, no_entries, replays_front}
use Rattle.roman_repair.proofs.Growing.{can_grow, grown_itself, grown_ready, stays_batch}
use Rattle.roman_repair.proofs.replaying.keep_grown.Goals as goal

pub keep_lanes-requires : goal.keep_lanes-requires
keep_lanes-requires g c = stays_batch _ _ c.args.newcomer _ _ _ c.if-newcomer-eq1.true (c.if-newcomer-lanes.true ∙ c.lanes.ensures.value) c.requires.ready

pub returns-then-newcomer-lanes-clause-replayed : goal.returns-then-newcomer-lanes-clause-replayed
returns-then-newcomer-lanes-clause-replayed g c =
    let same = grown_itself c.args.newcomer.states c.args.newcomer.lanes _ c.args.batch c.if-newcomer-eq1.true (c.if-newcomer-lanes.true ∙ c.lanes.ensures.value) in
    replays_front _ _ _ [] _ _ _ _ _ _ _ (sym same ∙ sym (append-nil _)) c.keep_lanes.ensures.replayed

pub left-init : goal.left-init
left-init g c = judged_none _ _ _ c.args.batch _ _ _ c.requires.ready.batch.some

pub first_grown-rest-requires : goal.first_grown-rest-requires
first_grown-rest-requires g c =
    can_grow _ _ _ c.left.order c.left.probe _ c.requires.slices (judge_rest _ _ _ (entries_grown c.args.newcomer) _ _ _ _ _ _ _ _ c.requires.ready c.left.invariant c.left-test.true)

pub keep_lanes-requires-in-left : goal.keep_lanes-requires-in-left
keep_lanes-requires-in-left g c =
    grown_ready _ _ c.args.newcomer _ _ _ _ _ (judge_rest _ _ _ (entries_grown c.args.newcomer) _ _ _ _ _ _ _ _ c.requires.ready c.left.invariant c.left-test.true) c.first_grown-rest.ensures

pub left-preserved : goal.left-preserved
left-preserved g c =
    judged_on _ _ (entries_grown c.args.newcomer) _ _ c.args.batch _ _ _ _ _ _ _ _ _ c.left.invariant (record {
      some = λ ne. some_lane c.first_grown-rest.result.1 ne c.first_grown-rest.ensures.fits;
      within = c.first_grown-rest.ensures.in_rest;
      replayed = replays_front _ _ _ _ _ _ _ _ _ _ _ c.first_grown-rest.ensures.parts c.keep_lanes-in-left.ensures.replayed;
      rest = c.keep_lanes-in-left.ensures.rest;
    })

pub returns-clause-replayed : goal.returns-clause-replayed
returns-clause-replayed g c =
    judged_all _ _ (entries_grown c.args.newcomer) _ c.args.batch _ _ _ _ _ _ c.left.invariant c.left-test.false (ap (flat_map (grown_numbers c.args.newcomer.states)) (no_entries _ c.args.batch.row c.args.batch.reason))
