-- Plans for a number of requests, their worst-case costs, and the least worst-case cost.
use Rattle.std.specs.Prelude.{◌≡◌, ℕ, zero, suc, ◌≤◌, ◌<◌, ◌+◌, ◌⊎◌, max, List, [], ◌∷◌, nat_le, if◌then◌else◌, IsTrue}
use Rattle.std.specs.List.{filter}
use Rattle.roman_model.specs.Lists.{IsIn, below}
use Rattle.roman_model.specs.System.{Sys, Pair, IsSys, IsPair}
use Rattle.roman_model.specs.SystemArena.{outcomes, is_allowed}
use Rattle.roman_model.specs.Composition.{Great}
use Rattle.roman_model.specs.Numbers.{sizes_of, pair_at}
use Rattle.roman_model.specs.Offers.{offers}

-- the cost of an action for a seat, by seat and action
abbrev pub Costs : Type 0
Costs = ℕ → ℕ → ℕ

-- a tree of delegations: a plan ends, or has a seat for each action and continues for each pair to which the action may lead
pub data Plan : Type 0 where
  Leaf : Plan
  Node : (seat : ℕ → ℕ) → (next : ℕ → Pair → Plan) → Plan

-- the greatest value over a list, 0 for none
abbrev pub max_over : {X : Type 0} → (X → ℕ) → List X → ℕ
max_over f [] = 0
max_over f (x ∷ xs) = max (f x) (max_over f xs)

-- the actions that the target allows at the pair, rising
abbrev pub allowed_actions : Sys → Pair → List ℕ
allowed_actions s p = filter (is_allowed s p) (below s.env.actions)

-- a plan for this number of requests: an offered seat for each allowed action, and a plan for the remaining requests at each outcome
abbrev pub IsPlan : Sys → ℕ → Pair → Plan → Type 0
IsPlan s zero p plan = plan ≡ Leaf
IsPlan s (suc h) p Leaf = ⊥
IsPlan s (suc h) p (Node seat next) =
    (a : ℕ) → IsTrue (is_allowed s p a) → IsIn (seat a) (offers s p a) × ((q : Pair) → IsIn q (outcomes s p a (seat a)) → IsPlan s h q (next a q))

-- the worst-case cost of a plan: the greatest sum along it over allowed actions and outcomes
abbrev pub worst : Sys → Costs → Pair → Plan → ℕ
worst s C p Leaf = 0
worst s C p (Node seat next) =
    max_over (λ a. max_over (λ q. C (seat a) a + worst s C q (next a q)) (outcomes s p a (seat a))) (allowed_actions s p)

-- the first of x and the elements of the list with the least value; x is the first least element so far
abbrev pub least_from : (ℕ → ℕ) → ℕ → List ℕ → ℕ
least_from f x [] = x
least_from f x (y ∷ ys) = if nat_le (f x) (f y) then least_from f x ys else least_from f y ys

-- the first element of the list with the least value, 0 for an empty list
abbrev pub first_least : (ℕ → ℕ) → List ℕ → ℕ
first_least f [] = 0
first_least f (x ∷ xs) = least_from f x xs

-- the worst-case cost of delegating a to seat k; `rest` is the cost of each pair that follows
abbrev pub through : Sys → Costs → (Pair → ℕ) → Pair → ℕ → ℕ → ℕ
through s C rest p a k = C k a + max_over rest (outcomes s p a k)

-- the least offered seat with the least worst-case cost for a; `rest` is the cost of each pair that follows
abbrev pub choice_by : Sys → Costs → (Pair → ℕ) → Pair → ℕ → ℕ
choice_by s C rest p a = first_least (through s C rest p a) (offers s p a)

-- the least worst-case cost of this number of requests
abbrev pub least : Sys → Costs → ℕ → Pair → ℕ
least s C zero p = 0
least s C (suc h) p = max_over (λ a. through s C (least s C h) p a (choice_by s C (least s C h) p a)) (allowed_actions s p)

-- the seat to choose for an action that h requests follow
abbrev pub choice : Sys → Costs → ℕ → Pair → ℕ → ℕ
choice s C h p a = choice_by s C (least s C h) p a

-- the plan that chooses the seat of `choice` at each pair
abbrev pub chosen : Sys → Costs → ℕ → Pair → Plan
chosen s C zero p = Leaf
chosen s C (suc h) p = Node (choice s C h p) (λ a q. chosen s C h q)

-- the seat is offered, and each other offered seat costs more, or costs the same and comes later
pub record IsChoice (s : Sys) (C : Costs) (h : ℕ) (p : Pair) (a k : ℕ) : Type 0 where
  pub offered : IsIn k (offers s p a)
  pub best : (j : ℕ) → IsIn j (offers s p a) →
      (through s C (least s C h) p a k < through s C (least s C h) p a j) ⊎ ((through s C (least s C h) p a k ≡ through s C (least s C h) p a j) × (k ≤ j))

-- the plan of the choices is a plan, its worst-case cost is `least`, and no plan costs less
pub record LeastIsLeast (s : Sys) (C : Costs) (h : ℕ) (p : Pair) : Type 0 where
  pub plan : IsPlan s h p (chosen s C h p)
  pub cost : worst s C p (chosen s C h p) ≡ least s C h p
  pub none_less : (plan : Plan) → IsPlan s h p plan → least s C h p ≤ worst s C p plan
  pub choice : (a : ℕ) → IsTrue (is_allowed s p a) → IsChoice s C h p a (choice s C h p a)

-- at each related pair the plan of the choices is a plan, and no plan has a lower worst-case cost
abbrev pub PlansCostLeast : Type 0
PlansCostLeast = (s : Sys) (C : Costs) (h : ℕ) (p : Pair) → IsSys s → IsPair s p → Great s p → LeastIsLeast s C h p

-- the least worst-case cost of this number of requests at the pair with number p
abbrev pub least_at : Sys → Costs → ℕ → ℕ → ℕ
least_at s C h p = least s C h (pair_at (sizes_of s) p)
