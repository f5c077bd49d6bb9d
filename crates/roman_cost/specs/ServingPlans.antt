-- Plans by seats that serve, and their worst-case costs, in terms of steps.
use Rattle.std.specs.Prelude.{◌≡◌, ◌⊎◌, ℕ, zero, suc, ◌+◌, ◌<◌, ◌≤◌, List, [], ◌∷◌}
use Rattle.roman_model.specs.System.{Sys, Pair, Allows}
use Rattle.roman_model.specs.Composition.{couple, Serves, GreatCouple}
use Rattle.roman_model.specs.Outcomes.{LeadsTo}
use Rattle.roman_model.specs.Plans.{Costs, Plan, Leaf, Node}

-- a plan for h requests: for each action that the target allows, a seat that serves it, and a plan for the remaining requests at
-- each pair to which that can lead
abbrev pub IsServingPlan : Sys → ℕ → Pair → Plan → Type 0
IsServingPlan s zero p plan = plan ≡ Leaf
IsServingPlan s (suc h) p Leaf = ⊥
IsServingPlan s (suc h) p (Node seat next) =
    (a : ℕ) → Allows s p.t p.e a → Serves s (GreatCouple s) (couple p) a (seat a) × ((q : Pair) → LeadsTo s p a (seat a) q → IsServingPlan s h q (next a q))

-- a request, and the pair to which it led
pub record Event : Type 0 where
  pub action : ℕ
  pub to : Pair

-- these events can occur from p on when the plan is followed
abbrev pub MayCome : Sys → Pair → Plan → List Event → Type 0
MayCome s p plan [] = Unit {0}
MayCome s p Leaf (m ∷ ms) = ⊥
MayCome s p (Node seat next) (m ∷ ms) = LeadsTo s p m.action (seat m.action) m.to × MayCome s m.to (next m.action m.to) ms

-- the cost of the events by the plan
abbrev pub cost_of_events : Costs → Plan → List Event → ℕ
cost_of_events C plan [] = 0
cost_of_events C Leaf (m ∷ ms) = 0
cost_of_events C (Node seat next) (m ∷ ms) = C (seat m.action) m.action + cost_of_events C (next m.action m.to) ms

-- no events that can occur cost more, and some of them cost as much
pub record IsWorstCost (s : Sys) (C : Costs) (p : Pair) (plan : Plan) (cost : ℕ) : Type 0 where
  pub within : (ms : List Event) → MayCome s p plan ms → cost_of_events C plan ms ≤ cost
  pub some : (ms : List Event) × MayCome s p plan ms × (cost_of_events C plan ms ≡ cost)

-- the least worst-case cost of h requests: some plan for them has this cost, and no plan has a lower one
pub record IsLeastCost (s : Sys) (C : Costs) (h : ℕ) (p : Pair) (value : ℕ) : Type 0 where
  pub plan : Plan
  pub is : IsServingPlan s h p plan
  pub cost : IsWorstCost s C p plan value
  pub none_less : (other : Plan) (cost : ℕ) → IsServingPlan s h p other → IsWorstCost s C p other cost → value ≤ cost

-- the worst-case cost of a by seat k, where `rest` is the cost of each pair that follows
pub record CostsBy (s : Sys) (C : Costs) (rest : Pair → ℕ) (p : Pair) (a k cost : ℕ) : Type 0 where
  pub within : (q : Pair) → LeadsTo s p a k q → C k a + rest q ≤ cost
  pub some : (q : Pair) × LeadsTo s p a k q × (C k a + rest q ≡ cost)

-- the seat serves a at that cost; each other seat that serves it costs more, or costs as much and comes later
pub record IsCheapest (s : Sys) (C : Costs) (rest : Pair → ℕ) (p : Pair) (a k cost : ℕ) : Type 0 where
  pub serves : Serves s (GreatCouple s) (couple p) a k
  pub costs : CostsBy s C rest p a k cost
  pub first : (j other : ℕ) → Serves s (GreatCouple s) (couple p) a j → CostsBy s C rest p a j other → (cost < other) ⊎ ((cost ≡ other) × (k ≤ j))
