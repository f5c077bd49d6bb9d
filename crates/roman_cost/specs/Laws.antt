-- What the text of advice states, in terms of the greatest ND-simulation, steps and plans.
use Rattle.std.specs.Prelude.{◌≡◌, ℕ, suc, ◌-◌, ◌<◌, ◌↔◌, List, ◌++◌, map, codes}
use Rattle.std.specs.List.{flat_map}
use Rattle.roman_model.specs.Composition.{Great}
use Rattle.roman_model.specs.Explanation.{name_at}
use Rattle.roman_model.specs.Lists.{IsIn, IsSublist, below}
use Rattle.roman_model.specs.Numbers.{sizes_of, count, number, pair_at}
use Rattle.roman_model.specs.Plans.{Costs}
use Rattle.roman_model.specs.System.{Pair, IsSys, IsPair, Allows}
use Rattle.roman_joint.specs.NamedSys.{NamedSys, system_of}
use Rattle.roman_joint.specs.Names.{seat_name}
use Rattle.roman_cost.specs.AdviceText.{worst_line, service_text, value_line, advice_text}
use Rattle.roman_cost.specs.ServingPlans.{IsLeastCost, IsCheapest}
use Rattle.roman_cost.specs.Tables.{seat_costs}
use Rattle.roman_cost.specs.declared.costs.Listed.{Listed}

-- a text gives the value of the pair itself; then for each action that the target allows the cheapest seat and its cost, by the values
-- for one request fewer; and then all values at the related pairs, in rising order of their numbers; the values are least costs
pub record TellsLeast (n : NamedSys) (C : Costs) (requests : ℕ) (p : Pair) (text : List ℕ) : Type 0 where
  pub value : ℕ → ℕ → ℕ
  pub pairs : List ℕ
  pub related : (q : ℕ) → IsIn q pairs ↔ (q < count (sizes_of (system_of n))) × Great (system_of n) (pair_at (sizes_of (system_of n)) q)
  pub order : IsSublist pairs (below (count (sizes_of (system_of n))))
  pub least : (h q : ℕ) → IsIn q pairs → IsLeastCost (system_of n) C h (pair_at (sizes_of (system_of n)) q) (value h q)
  pub actions : List ℕ
  pub allowed : (a : ℕ) → IsIn a actions ↔ Allows (system_of n) p.t p.e a
  pub rising : IsSublist actions (below (system_of n).env.actions)
  pub seat : ℕ → ℕ
  pub cost : ℕ → ℕ
  pub cheapest : (a : ℕ) → IsIn a actions → IsCheapest (system_of n) C (λ q. value (requests - 1) (number (sizes_of (system_of n)) q)) p a (seat a) (cost a)
  pub says : text
      ≡ worst_line (value requests (number (sizes_of (system_of n)) p))
      ++ flat_map (λ a. service_text (name_at n.environment.actions a) (name_at (map seat_name n.seats) (seat a)) (cost a)) actions
      ++ flat_map (λ h. flat_map (λ q. value_line (suc h) q (value (suc h) q)) pairs) (below requests)
      ++ codes "end\n"

-- advice at a related pair states least costs
abbrev pub AdviceIsLeast : Type 0
AdviceIsLeast = (n : NamedSys) (listed : List Listed) (requests : ℕ) (p : Pair) → IsSys (system_of n) → IsPair (system_of n) p → Great (system_of n) p →
    TellsLeast n (seat_costs n listed) requests p (advice_text n listed requests p)
