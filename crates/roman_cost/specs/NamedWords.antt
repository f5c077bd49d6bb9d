-- Words for contracts about a system with its names: its pairs by their numbers, and the terms and values by listed costs.
use Rattle.std.specs.Prelude.{◌≡◌, ℕ, ◌<◌, ◌≤◌, length, List, ◌++◌, map, IsTrue, Result, OnOk}
use Rattle.std.specs.List.{flat_map}
use Rattle.roman_model.specs.Lists.{IsIn}
use Rattle.roman_model.specs.Numbers.{sizes_of, count, pair_at}
use Rattle.roman_model.specs.Offers.{is_related}
use Rattle.roman_model.specs.Plans.{allowed_actions, choice, least, least_at, through}
use Rattle.roman_model.specs.System.{Pair}
use Rattle.roman_model.specs.SystemArena.{is_allowed}
use Rattle.roman_joint.specs.NamedSys.{NamedSys, system_of}
use Rattle.roman_relation.specs.Greatest.{IsRelation}
use Rattle.roman_relation.specs.declared.relation.Relation.{Relation}
use Rattle.roman_cost.specs.AdviceText.{advice_text, choice_line}
use Rattle.roman_cost.specs.Advised.{AdviceTable, Advises, related_pairs}
use Rattle.roman_cost.specs.Filling.{AreLeastCosts}
use Rattle.roman_cost.specs.Tables.{AreOf, CostTable, seat_costs}
use Rattle.roman_cost.specs.Terms.{action_terms, pair_terms, service_terms}
use Rattle.roman_cost.specs.declared.costs.Listed.{Listed}
use Rattle.roman_cost.specs.declared.limits.TheConstants.{MAX_COST}
use Rattle.roman_cost.specs.declared.terms.Term.{Term}

-- ---- pairs by their numbers

-- the pair with the number
abbrev pub numbered_pair : NamedSys → ℕ → Pair
numbered_pair n p = pair_at (sizes_of (system_of n)) p

-- the number is that of a pair
abbrev pub IsPairNumber : NamedSys → ℕ → Type 0
IsPairNumber n p = p < count (sizes_of (system_of n))

-- the pair with the number is related
abbrev pub IsRelatedNumber : NamedSys → ℕ → Type 0
IsRelatedNumber n p = IsTrue (is_related (system_of n) (numbered_pair n p))

-- the numbers of the related pairs, in rising order
abbrev pub related_numbers : NamedSys → List ℕ
related_numbers n = related_pairs (system_of n)

-- the numbers are those of related pairs
abbrev pub AreRelatedNumbers : NamedSys → List ℕ → Type 0
AreRelatedNumbers n ps = (p : ℕ) → IsIn p ps → IsIn p (related_numbers n)

-- the target allows the action at the pair with the number
abbrev pub AllowsAt : NamedSys → ℕ → ℕ → Type 0
AllowsAt n p a = IsTrue (is_allowed (system_of n) (numbered_pair n p) a)

-- ---- advice by a table of costs

-- the advice was built from the costs
abbrev pub AdvisesFor : NamedSys → CostTable → AdviceTable → Type 0
AdvisesFor n costs advice = Advises (system_of n) (seat_costs n costs.listed) advice

-- the relation's list is complete, the advice was built from it and the costs, and the number is that of a related pair
pub record CanAdvise (relation : Relation) (costs : CostTable) (advice : AdviceTable) (p : ℕ) : Type 0 where
  pub complete : IsRelation relation.joint relation.order
  pub priced : AreOf relation.joint costs
  pub advises : AdvisesFor relation.joint costs advice
  pub pair : IsPairNumber relation.joint p
  pub related : IsRelatedNumber relation.joint p

-- the text of advice from a pair on
abbrev pub advice_from : NamedSys → CostTable → ℕ → ℕ → List ℕ
advice_from n costs requests p = advice_text n costs.listed requests (numbered_pair n p)

-- the seat to take for an action if h requests follow, and the cost through a seat
abbrev pub seat_for : NamedSys → CostTable → ℕ → ℕ → ℕ → ℕ
seat_for n costs h p a = choice (system_of n) (seat_costs n costs.listed) h (numbered_pair n p) a

abbrev pub cost_for : NamedSys → CostTable → ℕ → ℕ → ℕ → ℕ → ℕ
cost_for n costs h p a k = let C = seat_costs n costs.listed in through (system_of n) C (least (system_of n) C h) (numbered_pair n p) a k

-- the line of an action if h requests follow, and the lines of all actions that the target allows
abbrev pub action_line : NamedSys → CostTable → ℕ → ℕ → ℕ → List ℕ
action_line n costs h p a = choice_line n (seat_costs n costs.listed) h (numbered_pair n p) a

abbrev pub action_lines : NamedSys → CostTable → ℕ → ℕ → List ℕ
action_lines n costs h p =
    flat_map (choice_line n (seat_costs n costs.listed) h (numbered_pair n p)) (allowed_actions (system_of n) (numbered_pair n p))

-- the item is for a behaviour and an action of the system, and its cost is within the limit
pub record IsItemFor (n : NamedSys) (item : Listed) : Type 0 where
  pub behaviour : item.behaviour < length n.catalogue
  pub action : item.action < length n.environment.actions
  pub small : item.cost ≤ MAX_COST

-- ---- terms and values by a table of costs

-- the items were appended, if the call succeeded
abbrev pub Appends : {X T E : Type 0} → List X → List X → List X → Result T E → Type 0
Appends old new items result = OnOk result (new ≡ old ++ items)

-- the terms of a delegation, of an action at a pair, and of a pair
abbrev pub terms_of_service : NamedSys → CostTable → List ℕ → ℕ → ℕ → ℕ → List Term
terms_of_service n costs ranks p a k = service_terms (system_of n) (seat_costs n costs.listed) ranks p a k

abbrev pub terms_of_action : NamedSys → CostTable → List ℕ → ℕ → ℕ → List Term
terms_of_action n costs ranks p a = action_terms (system_of n) (seat_costs n costs.listed) ranks p a

abbrev pub terms_of_pair : NamedSys → CostTable → List ℕ → ℕ → List Term
terms_of_pair n costs ranks p = pair_terms (system_of n) (seat_costs n costs.listed) ranks p

abbrev pub terms_of_pairs : NamedSys → CostTable → List ℕ → List ℕ → List Term
terms_of_pairs n costs ranks pairs = flat_map (pair_terms (system_of n) (seat_costs n costs.listed) ranks) pairs

-- the values are the least costs of h requests
abbrev pub AreLeastCostsFor : NamedSys → CostTable → ℕ → List ℕ → List ℕ → Type 0
AreLeastCostsFor n costs h ranks later = AreLeastCosts (system_of n) (seat_costs n costs.listed) h ranks later

-- the values are the least costs of some number of requests
abbrev pub IsSomeRow : NamedSys → CostTable → List ℕ → List ℕ → Type 0
IsSomeRow n costs ranks later = (h : ℕ) × AreLeastCostsFor n costs h ranks later

-- the least costs of h requests at the pairs
abbrev pub values_for : NamedSys → CostTable → ℕ → List ℕ → List ℕ
values_for n costs h pairs = map (least_at (system_of n) (seat_costs n costs.listed) h) pairs
