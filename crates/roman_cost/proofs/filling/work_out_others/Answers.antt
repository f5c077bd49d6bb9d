use Rattle.roman_cost.proofs.Common.{ℕ, suc, ◌++◌, List, map, get_or, refl, ap, ◌∙◌, take_all, least_at, system_of, seat_costs, in_at}
use Rattle.roman_cost.proofs.Values.{values_more}
use Rattle.roman_cost.proofs.TermLemmas.{one_worked}
use Rattle.roman_cost.proofs.filling.work_out_others.Goals as goal

pub push_pair-requires-clause-pair : goal.push_pair-requires-clause-pair
push_pair-requires-clause-pair c = c.requires.others _ (in_at c.args.others.now c.loop-p.p-index 0 c.loop-p-test.true)

pub loop-p-preserved : goal.loop-p-preserved
loop-p-preserved c = λ h known.
    let n = c.args.relation.now.joint in
    let s = system_of n in
    let C = seat_costs n c.args.costs.now.listed in
    let p : ℕ = get_or c.args.others.now c.loop-p.p-index 0 in
    let one = one_worked s C h c.args.ranks.now c.args.later.now known p c.clear.new.self.items c.deref.result.now c.loop-p.values.items c.work_out.new.values.items
    (c.requires.others p (in_at c.args.others.now c.loop-p.p-index 0 c.loop-p-test.true)) c.clear.ensures.items (c.deref.ensures.value ∙ c.in_ok-push_pair.ensures) c.in_ok-work_out.ensures in
    values_more (least_at s C (suc h)) c.args.values.now.items c.args.others.now c.loop-p.values.items c.work_out.new.values.items c.loop-p.p-index (least_at s C (suc h) p) c.loop-p-test.true (c.loop-p.invariant h known) refl one

pub returns : goal.returns
returns c = λ h known.
    let n = c.args.relation.now.joint in
    let C = seat_costs n c.args.costs.now.listed in
    c.loop-p.invariant h known ∙ ap (λ (ps : List ℕ). c.args.values.now.items ++ map (least_at (system_of n) C (suc h)) ps) (take_all c.loop-p.p-index c.args.others.now c.loop-p-test.false)
