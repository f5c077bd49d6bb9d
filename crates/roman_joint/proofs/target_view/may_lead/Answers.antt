use Rattle.roman_joint.proofs.Common.{◌≡◌, ℕ, ◌<◌, List, [], length, get_or, sym, ap, ◌∙◌, subst, env_prev, beh_prev, empty_is}
use Rattle.roman_joint.proofs.SeatLemmas.{len_empty}
use Rattle.roman_joint.proofs.TargetViewLemmas.{none_more}
use Rattle.roman_joint.proofs.target_view.may_lead.Goals as goal

pub loop-e-preserved : goal.loop-e-preserved
loop-e-preserved c =
    let envs = env_prev c.args.environment.now.env c.args.e2 c.args.a in
    let is : c.prev-e-items.result.now ≡ envs = c.prev-e-items.ensures.prev in
    let f = λ (e : ℕ). beh_prev c.args.target.now.beh c.args.t2 e c.args.a in
    let none : f (get_or c.prev-e-items.result.now c.loop-e.e-index 0) ≡ [] =
    sym c.into.ensures.prev ∙ empty_is c.into.result.now (sym (len_empty c.into.result.now) ∙ sym c.is_empty.ensures ∙ c.if-not-is_empty.false) in
    none_more envs c.loop-e.e-index f (subst (λ (xs : List ℕ). c.loop-e.e-index < length xs) is c.loop-e-test.true) (sym (ap (λ (xs : List ℕ). f (get_or xs c.loop-e.e-index 0)) is) ∙ none) c.loop-e.invariant
