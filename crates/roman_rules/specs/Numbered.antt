-- Arenas over numbers.
use Rattle.std.specs.Prelude.{◌≡◌, ℕ, ◌*◌, ◌^◌, ◌<◌, ◌≤◌, ◌==◌, length, IsTrue}
use Rattle.roman_model.specs.Lists.{IsIn, below}
use Rattle.roman_model.specs.Arena.{Arena}

-- the nodes are the numbers below a bound, all counts are within their limits, each outcome is a node,
-- and a delegation has outcomes only if the action is allowed and the seat is ready
pub record IsNumbered (A : Arena ℕ) : Type 0 where
  pub same : (p q : ℕ) → A.same p q ≡ (p == q)
  pub nodes : A.nodes ≡ below (length A.nodes)
  pub few_actions : A.actions ≤ 32
  pub few_seats : A.seats ≤ 32
  pub few_nodes : length A.nodes < 2 ^ 32
  pub few_cells : length A.nodes * A.actions < 2 ^ 32
  pub allowed : (p a : ℕ) → IsTrue (A.allows p a) → a < A.actions
  pub closed : (p a k q : ℕ) → p < length A.nodes → IsIn q (A.outcomes p a k) → q < length A.nodes
  pub served : (p a k q : ℕ) → IsIn q (A.outcomes p a k) → IsTrue (A.allows p a) × (k < A.seats) × IsTrue (A.ready k)
