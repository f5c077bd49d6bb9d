use Rattle.roman_cost.proofs.Common.{◌≡◌, ◌≤◌, ◌-◌, ℕ, Bool, length, arith, IsSome, sym, ap, ◌∙◌, subst, refl, has, offers, has_seat_is, least, through, pair_at, sizes_of, same_Some, system_of, seat_costs, AdviceTable, HavePlaces, AreLeastCosts, MAX_REQUESTS}
use Rattle.roman_cost.proofs.Best.{best_of-taken, best_of-passed}
use Rattle.roman_cost.proofs.CostLemmas.{seat_costs_small}
use Rattle.roman_cost.proofs.OfferedSeats.{told_offered, best_chosen}
use Rattle.roman_cost.proofs.Values.{table_has_costs}
use Rattle.roman_cost.proofs.advice.Advice.choice.Goals as goal
use Rattle.roman_cost.proofs.advice.Advice.choice.Goals.{then-has, else-has}

pub cost_through-cost-requires-clause-offered : goal.cost_through-cost-requires-clause-offered
cost_through-cost-requires-clause-offered c =
    told_offered (system_of c.args.relation.now.joint) c.args.p c.args.a c.loop-k.k _ _ c.known.ensures.system c.requires.known.pair c.offers-offered.ensures.offers (omega arith) c.has.ensures c.if-has.true

pub cost_through-cost-requires-clause-later : goal.cost_through-cost-requires-clause-later
cost_through-cost-requires-clause-later c =
    let n = c.args.relation.now.joint in
    let C = seat_costs n c.args.costs.now.listed in
    let few : c.args.self.now.requests ≤ MAX_REQUESTS = subst (λ (t : AdviceTable). t.requests ≤ MAX_REQUESTS) c.self.view_is c.self.invariant.few in
    let places : HavePlaces c.args.self.now.pairs c.deref-ranks.result.now = rw c.deref-ranks.ensures.value (subst (λ (t : AdviceTable). HavePlaces t.pairs c.self.inside.ranks.items) c.self.view_is c.self.invariant.ranks) in (
      c.args.h - 1,
      table_has_costs (system_of n) C c.args.self.now _ _ (c.args.h - 1) c.known.ensures.system (seat_costs_small n c.args.costs.now.listed c.known-2.ensures) (omega (arith, few))
          c.requires.known.advises places (c.least_costs-later.ensures.values (system_of n) C c.requires.known.advises),
    )

pub loop-k-preserved : goal.loop-k-preserved
loop-k-preserved c =
    let n = c.args.relation.now.joint in
    let C = seat_costs n c.args.costs.now.listed in
    let few : c.args.self.now.requests ≤ MAX_REQUESTS = subst (λ (t : AdviceTable). t.requests ≤ MAX_REQUESTS) c.self.view_is c.self.invariant.few in
    let places : HavePlaces c.args.self.now.pairs c.deref-ranks.result.now = rw c.deref-ranks.ensures.value (subst (λ (t : AdviceTable). HavePlaces t.pairs c.self.inside.ranks.items) c.self.view_is c.self.invariant.ranks) in
    let later : AreLeastCosts (system_of n) C (c.args.h - 1) c.deref-ranks.result.now c.least_costs-later.result.now =
    table_has_costs (system_of n) C c.args.self.now _ _ (c.args.h - 1) c.known.ensures.system (seat_costs_small n c.args.costs.now.listed c.known-2.ensures) (omega (arith, few))
    c.requires.known.advises places (c.least_costs-later.ensures.values (system_of n) C c.requires.known.advises) in
    let p = pair_at (sizes_of (system_of n)) c.args.p in
    let cost : ℕ → ℕ = through (system_of n) C (least (system_of n) C (c.args.h - 1)) p c.args.a in
    let test : ℕ → Bool = has (offers (system_of n) p c.args.a) in
    let told : c.has.result ≡ test c.loop-k.k = c.has.ensures ∙ has_seat_is c.offers-offered.result test c.loop-k.k c.offers-offered.ensures.offers (omega arith) in
    elim c.if-has.branch [
      | then-has w ↦
          w.best-is ∙ best_of-taken cost test c.loop-k.k w.cost_through-cost.result c.loop-k.best w.better-best.result (sym told ∙ w.if-has.true) c.loop-k.invariant
          (w.cost_through-cost.ensures (c.args.h - 1) later) w.better-best.ensures
      | else-has w ↦ w.best-is ∙ best_of-passed cost test c.loop-k.k c.loop-k.best (sym told ∙ w.if-has.false) c.loop-k.invariant
    ]

pub unwrap-requires : goal.unwrap-requires
unwrap-requires c =
    let n = c.args.relation.now.joint in
    let end : c.loop-k.k ≡ length n.seats = omega (arith, c.loop-k-test.false, c.loop-k.auto.k-end, c.seats-k-end.ensures.count) in
    subst IsSome (sym (best_chosen n (seat_costs n c.args.costs.now.listed) (c.args.h - 1) c.args.p c.args.a c.loop-k.k c.loop-k.best c.known.ensures.system c.requires.known.pair c.requires.known.related c.requires.allowed end c.loop-k.invariant)) refl

pub returns : goal.returns
returns c =
    let n = c.args.relation.now.joint in
    let s = system_of n in
    let C = seat_costs n c.args.costs.now.listed in
    let end : c.loop-k.k ≡ length n.seats = omega (arith, c.loop-k-test.false, c.loop-k.auto.k-end, c.seats-k-end.ensures.count) in
    let best = best_chosen n C (c.args.h - 1) c.args.p c.args.a c.loop-k.k c.loop-k.best c.known.ensures.system c.requires.known.pair c.requires.known.related c.requires.allowed end c.loop-k.invariant in
    let is = same_Some c.unwrap.result _ (sym c.unwrap.ensures ∙ best) in
    record {
      seat = ap (λ (x : ℕ × ℕ). x.0) is;
      sum = ap (λ (x : ℕ × ℕ). x.1) is ∙ ap (through s C (least s C (c.args.h - 1)) (pair_at (sizes_of s) c.args.p) c.args.a) (sym (ap (λ (x : ℕ × ℕ). x.0) is));
    }
