use Rattle.roman_cost.proofs.Common.{◌<◌, ◌≤◌, ◌-◌, sym, ◌∙◌, arith, err_from_is_err_and, sizes_of, pair_at, system_of, seat_costs, fill_behind, fill_same, fill_more, fill_failed, fill_end}
use Rattle.roman_cost.proofs.Lines.{choices_begin, choice_taken, next_unallowed, no_choice}
use Rattle.roman_cost.proofs.writing.push_choices.Goals as goal

pub loop-a-init : goal.loop-a-init
loop-a-init g c = grind (arith, choices_begin, fill_behind)

pub loop-a-preserved-then-not-allowed : goal.loop-a-preserved-then-not-allowed
loop-a-preserved-then-not-allowed g c = grind (arith, fill_same, next_unallowed)

pub returns-in_err-push-clause-gathers : goal.returns-in_err-push-clause-gathers
returns-in_err-push-clause-gathers g c =
    let l : c.loop-a.a < (system_of c.args.relation.now.joint).env.actions = omega (arith, c.loop-a-test.true, c.actions-a-end.ensures) in
    let next = choice_taken _ _ _ _ _ _ _ _ _ _ l (sym c.if-not-allowed.ensures) (c.bytes.ensures ∙ c.choice_piece-line.ensures) c.loop-a.invariant.filling in
    let p = err_from_is_err_and c.from_residual.result c.from_residual.ensures.1 in
    rw p.1 (fill_failed _ _ _ _ _ _ _ next c.in_err-push.ensures.gathers.0, c.in_err-push.ensures.gathers.1)

pub loop-a-preserved : goal.loop-a-preserved
loop-a-preserved g c =
    let l : c.loop-a.a < (system_of c.args.relation.now.joint).env.actions = omega (arith, c.loop-a-test.true, c.actions-a-end.ensures) in
    record {
      filling = fill_more _ _ _ _ _ _ _ _ (choice_taken _ _ _ _ _ _ _ _ _ _ l (sym c.if-not-allowed.ensures) (c.bytes.ensures ∙ c.choice_piece-line.ensures) c.loop-a.invariant.filling) c.in_ok-push.ensures.gathers;
      cause = c.in_ok-push.ensures.cause.stays ∙ c.loop-a.invariant.cause;
    }

pub returns-clause-gathers : goal.returns-clause-gathers
returns-clause-gathers g c =
    let n = c.args.relation.now.joint in
    let C = seat_costs n c.args.costs.now.listed in
    let l : (system_of n).env.actions ≤ c.loop-a.a = omega (arith, c.actions-a-end.ensures) in
    fill_end _ _ _ _ (fill_same _ _ _ _ _ _ (no_choice n C (c.args.advice.now.requests - 1) (pair_at (sizes_of (system_of n)) c.args.start) c.loop-a.a l) c.loop-a.invariant.filling)
