-- Orders that are shaped for an arena, and what they say of its nodes.
use Rattle.std.specs.Prelude.{◌≡◌, ℕ, ◌+◌, ◌*◌, ◌<◌, List, length, sum_by}
use Rattle.roman_model.specs.Lists.{below}
use Rattle.roman_model.specs.Arena.{Arena, Entry, is_listed, mask, IsOrder}
use Rattle.roman_rules.specs.declared.rules.Rules.{Ghosts as RulesView}
use Rattle.roman_order.specs.Board.{Board, pairs_of}

-- the order is shaped for the arena's nodes, in rows of `width` lanes
pub record IsShaped (A : Arena ℕ) (width : ℕ) (board : Board) : Type 0 where
  pub pairs : pairs_of board ≡ length A.nodes
  pub lanes : board.lanes ≡ width

-- the order is shaped for the joint's pairs and rows
abbrev pub HasShapeOf : {J R : Type 0} → RulesView J R → J → Board → Type 0
HasShapeOf J joint order = IsShaped (J.arena joint) (J.lanes joint) order

-- the order is shaped for the joint, and its list is a removal list
pub record IsOrderFor {J R : Type 0} (V : RulesView J R) (joint : J) (board : Board) : Type 0 where
  pub shaped : HasShapeOf V joint board
  pub valid : IsOrder (V.arena joint) board.list

-- P holds of each pair of some rows from row x on
abbrev pub InRows : ℕ → ℕ → ℕ → (ℕ → Type 0) → Type 0
InRows lanes x rows P = (i lane : ℕ) → i < rows → lane < lanes → P ((x + i) * lanes + lane)

-- the mask of action a at the pair p, if exactly the listed pairs are gone
abbrev pub mask_by : Arena ℕ → List (Entry ℕ) → ℕ → ℕ → List ℕ
mask_by A L p a = mask A (is_listed A L) p a

-- the number of seats in the masks of the pairs of band y together, over all actions
abbrev pub choices_in_band : {J R : Type 0} → RulesView J R → J → List (Entry ℕ) → ℕ → ℕ
choices_in_band J joint L y =
    let A = J.arena joint in
    sum_by (λ a. sum_by (λ i. sum_by (λ lane. length (mask_by A L ((y * J.band joint + i) * J.lanes joint + lane) a))
    (below (J.lanes joint))) (below (J.band joint))) (below A.actions)
