-- The plans by offers are those by seats that serve, and their worst-case costs are the greatest costs that can occur.
use Rattle.roman_cost.proofs.Common.{◌≡◌, ℕ, zero, suc, ◌+◌, ◌<◌, ◌≤◌, List, [], ◌∷◌, IsTrue, inl, inr, refl, sym, ap, ◌∙◌, subst, arith, ◌⊎◌, max, IsIn, below, Sys, Pair, IsSys, IsPair, Allows, outcomes, is_allowed, Great, couple, Serves, GreatCouple, offers, Costs, max_over, allowed_actions, least, through, choice, Plan, Leaf, Node, IsPlan, worst, chosen, by_test, in_filter, in_below, not_empty_in, ne_not_empty, allowed_in_range, from_allowed, outcome_pair, offer_is, choice_is, allowed_in, outcome_in, from_outcome, offers_are, plans_least, le-max_left, le-max_right, max-le, leb-true, leb-false, slice_get_within, LeadsTo, IsServingPlan, Event, MayCome, cost_of_events, IsWorstCost, IsLeastCost, CostsBy, IsCheapest, le_max_over}

-- Plans.

served : (s : Sys) (p : Pair) (a k : ℕ) → IsSys s → IsPair s p → IsTrue (is_allowed s p a) → Serves s (GreatCouple s) (couple p) a k → IsIn k (offers s p a)
served s p a k ok pair allowed serves =
    let (t', e', step) = from_allowed s p a allowed in
    let (bs', r) = (serves t' e' step).0 in
    ((offers_are s ok).offered p pair a allowed k).1 (slice_get_within s.seats k r.seat r.seated, serves)

serving : (s : Sys) (p : Pair) (a k : ℕ) → IsSys s → IsPair s p → IsTrue (is_allowed s p a) → IsIn k (offers s p a) → Serves s (GreatCouple s) (couple p) a k
serving s p a k ok pair allowed i = (((offers_are s ok).offered p pair a allowed k).0 i).1

moves_in : (s : Sys) (p : Pair) (a k : ℕ) (q : Pair) → IsSys s → LeadsTo s p a k q → IsIn q (outcomes s p a k)
moves_in s p a k q ok (target, system) = outcome_in s p a k q.t q.e q.bs ok target system

pub serving_plan : (s : Sys) (h : ℕ) (p : Pair) (plan : Plan) → IsSys s → IsPair s p → IsPlan s h p plan → IsServingPlan s h p plan
serving_plan s zero p plan ok pair is = is
serving_plan s (suc h) p Leaf ok pair is = is
serving_plan s (suc h) p (Node seat next) ok pair is = λ a allows.
    let allowed : IsTrue (is_allowed s p a) = allowed_in s p a ok allows in
    let (offered, rest) = is a allowed in (
      serving s p a (seat a) ok pair allowed offered,
      λ q moves.
          let i : IsIn q (outcomes s p a (seat a)) = moves_in s p a (seat a) q ok moves in
          serving_plan s h q (next a q) ok (outcome_pair s p a (seat a) q ok pair i) (rest q i),
    )

pub offered_plan : (s : Sys) (h : ℕ) (p : Pair) (plan : Plan) → IsSys s → IsPair s p → IsServingPlan s h p plan → IsPlan s h p plan
offered_plan s zero p plan ok pair is = is
offered_plan s (suc h) p Leaf ok pair is = is
offered_plan s (suc h) p (Node seat next) ok pair is = λ a allowed.
    let (serves, rest) = is a (from_allowed s p a allowed) in (
      served s p a (seat a) ok pair allowed serves,
      λ q i. offered_plan s h q (next a q) ok (outcome_pair s p a (seat a) q ok pair i) (rest q (from_outcome s p a (seat a) q i)),
    )

-- The greatest value over a list.

max_is_one : (m n : ℕ) → (max m n ≡ m) ⊎ (max m n ≡ n)
max_is_one m n = grind (arith, by_test, le-max_left, le-max_right, leb-false, leb-true, max-le)

-- the greatest value is that of some element, or 0
max_of_one : {X : Type 0} (f : X → ℕ) (xs : List X) → ((x : X) × IsIn x xs × (f x ≡ max_over f xs)) ⊎ (max_over f xs ≡ 0)
max_of_one f [] = inr refl
max_of_one f (x ∷ xs) = grind (arith, max_is_one, (max_of_one f xs))

max_of_some : {X : Type 0} (f : X → ℕ) (xs : List X) (x : X) → IsIn x xs → (y : X) × IsIn y xs × (f y ≡ max_over f xs)
max_of_some f xs x i = elim (max_of_one f xs) [
  | inl found ↦ found
  | inr none ↦ let l : f x ≤ max_over f xs = le_max_over f x xs i in (x, i, omega arith)
]

-- Worst-case costs.

-- the cost of an action and its outcome at a node of a plan
abbrev cost_at : Sys → Costs → Pair → (ℕ → ℕ) → (ℕ → Pair → Plan) → ℕ → Pair → ℕ
cost_at s C p seat next a q = C (seat a) a + worst s C q (next a q)

pub in_allowed : (s : Sys) (p : Pair) (a : ℕ) → IsSys s → Allows s p.t p.e a → IsIn a (allowed_actions s p)
in_allowed s p a ok allows =
    let allowed : IsTrue (is_allowed s p a) = allowed_in s p a ok allows in
    in_filter (is_allowed s p) a (below s.env.actions) (in_below s.env.actions a (allowed_in_range s p a ok allowed)) allowed

worst_within : (s : Sys) (C : Costs) (p : Pair) (plan : Plan) → IsSys s → (ms : List Event) → MayCome s p plan ms → cost_of_events C plan ms ≤ worst s C p plan
worst_within s C p plan ok [] may = omega arith
worst_within s C p Leaf ok (m ∷ ms) may = absurd may
worst_within s C p (Node seat next) ok (m ∷ ms) (moves, may) =
    let rest : cost_of_events C (next m.action m.to) ms ≤ worst s C m.to (next m.action m.to) = worst_within s C m.to (next m.action m.to) ok ms may in
    let here : cost_at s C p seat next m.action m.to ≤ max_over (cost_at s C p seat next m.action) (outcomes s p m.action (seat m.action)) =
    le_max_over (cost_at s C p seat next m.action) m.to (outcomes s p m.action (seat m.action)) (moves_in s p m.action (seat m.action) m.to ok moves) in
    let whole : max_over (cost_at s C p seat next m.action) (outcomes s p m.action (seat m.action)) ≤ worst s C p (Node seat next) =
    le_max_over (λ a. max_over (cost_at s C p seat next a) (outcomes s p a (seat a))) m.action (allowed_actions s p) (in_allowed s p m.action ok (m.to.t, m.to.e, moves.0)) in
    omega arith

abbrev Attains : Sys → Costs → Pair → Plan → ℕ → Type 0
Attains s C p plan cost = (ms : List Event) × MayCome s p plan ms × (cost_of_events C plan ms ≡ cost)

worst_some : (s : Sys) (C : Costs) (p : Pair) (plan : Plan) → Attains s C p plan (worst s C p plan)
worst_some s C p Leaf = ([], tt, refl)
worst_some s C p (Node seat next) = elim (max_of_one (λ a. max_over (cost_at s C p seat next a) (outcomes s p a (seat a))) (allowed_actions s p)) [
  | inr none ↦ ([], tt, sym none)
  | inl found ↦
      let (a, i, e) = found in
      elim (max_of_one (cost_at s C p seat next a) (outcomes s p a (seat a))) [
        | inr none ↦ ([], tt, sym none ∙ e)
        | inl reached ↦
            let (q, j, f) = reached in
            let (ms, may, same) = worst_some s C q (next a q) in
            (record { action = a; to = q } ∷ ms, (from_outcome s p a (seat a) q j, may), ap (λ n. C (seat a) a + n) same ∙ f ∙ e)
      ]
]

pub worst_is : (s : Sys) (C : Costs) (p : Pair) (plan : Plan) → IsSys s → IsWorstCost s C p plan (worst s C p plan)
worst_is s C p plan ok = record { within = worst_within s C p plan ok; some = worst_some s C p plan }

-- Least worst-case costs.

pub least_cost : (s : Sys) (C : Costs) (h : ℕ) (p : Pair) → IsSys s → IsPair s p → Great s p → IsLeastCost s C h p (least s C h p)
least_cost s C h p ok pair great =
    let all = plans_least s C h p ok pair great in
    record {
      plan = chosen s C h p;
      is = serving_plan s h p (chosen s C h p) ok pair all.plan;
      cost = subst (IsWorstCost s C p (chosen s C h p)) all.cost (worst_is s C p (chosen s C h p) ok);
      none_less = λ other cost is worst_cost.
          let bound : least s C h p ≤ worst s C p other = all.none_less other (offered_plan s h p other ok pair is) in
          let (ms, may, same) = worst_some s C p other in
          let reached : cost_of_events C other ms ≤ cost = worst_cost.within ms may in
          omega arith;
    }

-- Choices.

-- the cost of an action through a seat that serves it
through_costs : (s : Sys) (C : Costs) (rest : Pair → ℕ) (p : Pair) (a k : ℕ) → IsSys s → IsPair s p → IsTrue (is_allowed s p a) → IsIn k (offers s p a) → CostsBy s C rest p a k (through s C rest p a k)
through_costs s C rest p a k ok pair allowed offered =
    let (may, within, some, all) = offer_is s p a k ok pair offered in
    let (x, i) = not_empty_in (outcomes s p a k) (ne_not_empty (outcomes s p a k) some) in
    let (q, j, e) = max_of_some rest (outcomes s p a k) x i in
    record {
      within = λ r moves. let l : rest r ≤ max_over rest (outcomes s p a k) = le_max_over rest r (outcomes s p a k) (moves_in s p a k r ok moves) in omega arith;
      some = (q, from_outcome s p a k q j, ap (λ n. C k a + n) e);
    }

-- the cost of an action through a seat is unique
costs_once : (s : Sys) (C : Costs) (rest : Pair → ℕ) (p : Pair) (a k cost other : ℕ) → CostsBy s C rest p a k cost → CostsBy s C rest p a k other → cost ≡ other
costs_once s C rest p a k cost other one two = grind arith

pub choice_cheapest : (s : Sys) (C : Costs) (h : ℕ) (p : Pair) (a : ℕ) → IsSys s → IsPair s p → Great s p → Allows s p.t p.e a →
    IsCheapest s C (least s C h) p a (choice s C h p a) (through s C (least s C h) p a (choice s C h p a))
choice_cheapest s C h p a ok pair great allows =
    let allowed : IsTrue (is_allowed s p a) = allowed_in s p a ok allows in
    let is = choice_is s C h p a ok great allowed in
    record {
      serves = serving s p a (choice s C h p a) ok pair allowed is.offered;
      costs = through_costs s C (least s C h) p a (choice s C h p a) ok pair allowed is.offered;
      first = λ j other serves costs.
          let offered : IsIn j (offers s p a) = served s p a j ok pair allowed serves in
          subst (λ c. (through s C (least s C h) p a (choice s C h p a) < c) ⊎ ((through s C (least s C h) p a (choice s C h p a) ≡ c) × (choice s C h p a ≤ j)))
          (costs_once s C (least s C h) p a j (through s C (least s C h) p a j) other (through_costs s C (least s C h) p a j ok pair allowed offered) costs) (is.best j offered);
    }

-- if equal costs follow at each pair, the costs of the action are equal
costs_same : (s : Sys) (C : Costs) (rest other : Pair → ℕ) (p : Pair) (a k cost : ℕ) → IsSys s → IsPair s p → ((q : Pair) → IsPair s q → rest q ≡ other q) →
    CostsBy s C rest p a k cost → CostsBy s C other p a k cost
costs_same s C rest other p a k cost ok pair same costs = grind (arith, moves_in, outcome_pair)

pub cheapest_same : (s : Sys) (C : Costs) (rest other : Pair → ℕ) (p : Pair) (a k cost : ℕ) → IsSys s → IsPair s p → ((q : Pair) → IsPair s q → rest q ≡ other q) →
    IsCheapest s C rest p a k cost → IsCheapest s C other p a k cost
cheapest_same s C rest other p a k cost ok pair same is = record {
  serves = is.serves;
  costs = costs_same s C rest other p a k cost ok pair same is.costs;
  first = λ j much serves costs. is.first j much serves (costs_same s C other rest p a j much ok pair (λ q there. sym (same q there)) costs);
}
