-- Listed costs, and the costs of behaviours by them.
use Rattle.std.specs.Prelude.{◌≡◌, ℕ, ◌+◌, ◌*◌, ◌<◌, ◌≤◌, ◌==◌, ◌&&◌, List, [], ◌∷◌, length, Option, None, Some, unwrap_or, get_or, slice_get, if◌then◌else◌}
use Rattle.std.specs.List.{All}
use Rattle.roman_model.specs.Plans.{Costs}
use Rattle.roman_model.specs.declared.limits.TheConstants.{MAX_BEHAVIOURS, MAX_ACTIONS}
use Rattle.roman_joint.specs.NamedSys.{NamedSys}
use Rattle.roman_joint.specs.declared.seat.Seat.{Seat}
use Rattle.roman_cost.specs.declared.costs.Listed.{Listed}
use Rattle.roman_cost.specs.declared.limits.TheConstants.{MAX_COST}

-- listed costs, with the numbers of behaviours and actions
pub record CostTable : Type 0 where
  pub behaviours : ℕ
  pub actions : ℕ
  pub listed : List Listed

-- the cost that is listed for the behaviour and the action, if there is one
abbrev pub listed_cost : List Listed → ℕ → ℕ → Option ℕ
listed_cost [] behaviour action = None
listed_cost (x ∷ listed) behaviour action = if x.behaviour == behaviour && x.action == action then Some x.cost else listed_cost listed behaviour action

-- the cost of a behaviour for an action: the listed cost, or 0 if none is listed
abbrev pub cost_of : List Listed → ℕ → ℕ → ℕ
cost_of listed behaviour action = unwrap_or (listed_cost listed behaviour action) 0

-- the cost of a service for an action: the cost of its behaviour, given by its place in the catalogue
abbrev pub cost_at : List Listed → Option Seat → ℕ → ℕ
cost_at listed None action = 0
cost_at listed (Some seat) action = cost_of listed seat.behaviour action

-- the cost of each seat of a system for each action
abbrev pub seat_costs : NamedSys → List Listed → Costs
seat_costs n listed k action = cost_at listed (slice_get n.seats k) action

-- the numbers of behaviours and actions are those of that system
pub record AreOf (n : NamedSys) (table : CostTable) : Type 0 where
  pub behaviours : table.behaviours ≡ length n.catalogue
  pub actions : table.actions ≡ length n.environment.actions
  pub env_actions : table.actions ≡ n.environment.env.actions

-- no listed cost is too great, and the cell of each behaviour and action has the cost that is listed for them
pub record HoldsCosts (table : CostTable) (laid : List (Option ℕ)) : Type 0 where
  pub few_behaviours : table.behaviours ≤ MAX_BEHAVIOURS
  pub few_actions : table.actions ≤ MAX_ACTIONS
  pub small : All (λ x. x.cost ≤ MAX_COST) table.listed
  pub len : length laid ≡ table.behaviours * table.actions
  pub cells : (b a : ℕ) → b < table.behaviours → a < table.actions →
      get_or laid (b * table.actions + a) None ≡ listed_cost table.listed b a
