-- How values are computed from those for one request fewer: the worst case of outcomes, and the least of seats.
use Rattle.std.specs.Prelude.{◌≡◌, ◌≢◌, ℕ, ◌+◌, ◌<◌, ◌≤◌, ◌*◌, ◌^◌, List, [], map, length, Option, None, Some, nat_le, if◌then◌else◌, slice_index, IsTrue}
use Rattle.std.specs.List.{All}
use Rattle.roman_model.specs.Lists.{IsIn}
use Rattle.roman_model.specs.Numbers.{sizes_of, count, numbered}
use Rattle.roman_model.specs.Plans.{Costs, least_at}
use Rattle.roman_model.specs.System.{Sys, IsSys}
use Rattle.roman_joint.specs.NamedSys.{system_of}
use Rattle.roman_joint.specs.Outcomes.{outcome_number}
use Rattle.roman_joint.specs.declared.outcomes.Outcomes.{Outcomes}
use Rattle.roman_relation.specs.Greatest.{IsRelation}
use Rattle.roman_relation.specs.declared.relation.Relation.{Relation}
use Rattle.roman_cost.specs.Advised.{related_pairs, HavePlaces}
use Rattle.roman_cost.specs.Tables.{CostTable, AreOf}
use Rattle.roman_cost.specs.declared.limits.TheConstants.{MAX_COST, MAX_REQUESTS}

-- values can be computed: the list is complete, the costs are of its system, and the related pairs have ranks
pub record CanFill (relation : Relation) (costs : CostTable) (ranks : List ℕ) : Type 0 where
  pub complete : IsRelation relation.joint relation.order
  pub priced : AreOf relation.joint costs
  pub places : HavePlaces (related_pairs (system_of relation.joint)) ranks

-- the values are the least costs of h requests at the related pairs, where each cost is within its limit and h + 1 is within the
-- limit of requests
pub record AreLeastCosts (s : Sys) (C : Costs) (h : ℕ) (ranks later : List ℕ) : Type 0 where
  pub system : IsSys s
  pub cheap : (k a : ℕ) → C k a ≤ MAX_COST
  pub few : h < MAX_REQUESTS
  pub places : HavePlaces (related_pairs s) ranks
  pub values : later ≡ map (least_at s C h) (related_pairs s)

-- the seat k can serve the allowed action a at the pair with the number p, and leads only to related pairs
pub record IsOffered (s : Sys) (p a k : ℕ) : Type 0 where
  pub pair : p < count (sizes_of s)
  pub allowed : IsTrue ((numbered s).allows p a)
  pub seat : k < length s.seats
  pub ready : IsTrue ((numbered s).ready k)
  pub some : (numbered s).outcomes p a k ≢ []
  pub related : (q : ℕ) → IsIn q ((numbered s).outcomes p a k) → IsIn q (related_pairs s)

-- the value of a pair, at the place of its rank
abbrev pub ranked : List ℕ → List ℕ → ℕ → ℕ
ranked ranks later p = slice_index later (slice_index ranks p)

-- the pair has a rank, and there is a value at that place
abbrev pub IsRanked : List ℕ → List ℕ → ℕ → Type 0
IsRanked ranks later p = (p < length ranks) × (slice_index ranks p < length later)

-- the outcomes are numbers of 32 bits with the property
pub record AreOutcomes (P : ℕ → Type 0) (o : Outcomes) : Type 0 where
  pub envs : All (λ e. o.base + e * o.env_stride < 2 ^ 32) o.envs.now
  pub fits : All (λ e. All (λ b. outcome_number o e b < 2 ^ 32) o.states.now) o.envs.now
  pub each : All (λ e. All (λ b. P (outcome_number o e b)) o.states.now) o.envs.now

-- the better of the best seat so far, if there is one, and the seat k at the given cost
abbrev pub better_of : Option (ℕ × ℕ) → ℕ → ℕ → Option (ℕ × ℕ)
better_of None k cost = Some (k, cost)
better_of (Some best) k cost = if nat_le best.1 cost then Some best else Some (k, cost)
