use Rattle.roman_cost.proofs.Common.{◌≡◌, ◌<◌, None, refl, sym, subst, CostTable, listed_cost}
use Rattle.roman_cost.proofs.CostLemmas.{HoldsCosts-put}
use Rattle.roman_cost.proofs.costs.Costs.put.Goals as goal

pub invariant_of-self-2 : goal.invariant_of-self-2
invariant_of-self-2 c =
    let t = c.self.inside in
    let lb : c.args.item.behaviour < t.behaviours = subst (λ (t : CostTable). c.args.item.behaviour < t.behaviours) (sym c.self.view_is) c.requires.behaviour in
    let la : c.args.item.action < t.actions = subst (λ (t : CostTable). c.args.item.action < t.actions) (sym c.self.view_is) c.requires.action in
    let new : listed_cost t.listed.items c.args.item.behaviour c.args.item.action ≡ None =
    subst (λ (t : CostTable). listed_cost t.listed c.args.item.behaviour c.args.item.action ≡ None) (sym c.self.view_is) c.requires.new in
    rw c.in_ok-push.ensures.items (HoldsCosts-put _ _ _ _ c.self.invariant lb la c.requires.small new refl)
