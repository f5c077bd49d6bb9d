-- Tables with a cell for each state and action, or for each state, environment state and action. Each cell has a mask of states.
use Rattle.std.specs.Prelude.{◌≡◌, ℕ, ◌+◌, ◌*◌, ◌<◌, ◌==◌, ◌&&◌, ◌||◌, Bool, List, slice_index, if◌then◌else◌}
use Rattle.std.specs.List.{list_any}
use Rattle.roman_guard.specs.Meaning.{has_state}
use Rattle.roman_parts.specs.declared.cells.Cells.{Cells}

-- the mask of cell k has state n
unfoldable pub cell_has : List ℕ → ℕ → ℕ → Bool
cell_has masks k n = has_state (slice_index masks k) n

-- the number of cells
abbrev pub cell_count : Cells → ℕ
cell_count cells = cells.states * cells.env_states * cells.actions

-- n was added to cell k
pub record PutsIntoCell (old new : List ℕ) (k n : ℕ) : Type 0 where
  pub has : (j m : ℕ) → cell_has new j m ≡ (cell_has old j m || (k == j && n == m))

-- n was added to the cells of state `at`, the action and each environment state of the guard
pub record PutsIntoCells (env_states actions : ℕ) (old new : List ℕ) (at guard action n : ℕ) : Type 0 where
  pub has : (b e a m : ℕ) → e < env_states → a < actions →
      cell_has new ((b * env_states + e) * actions + a) m ≡ (cell_has old ((b * env_states + e) * actions + a) m || (at == b && action == a && has_state guard e && n == m))

-- the ends of a step, exchanged if the steps are followed backwards
abbrev pub ends : Bool → ℕ → ℕ → ℕ × ℕ
ends back from to = if back then (to, from) else (from, to)

-- the step leads from state e by action a to state n, or backwards
abbrev pub leads : Bool → ℕ × ℕ × ℕ → ℕ → ℕ → ℕ → Bool
leads back t e a n = (ends back t.0 t.2).0 == e && t.1 == a && (ends back t.0 t.2).1 == n

-- the step goes from state b in environment state e by action a to state n, or backwards
abbrev pub goes : Bool → ℕ × ℕ × ℕ × ℕ → ℕ → ℕ → ℕ → ℕ → Bool
goes back m b e a n = (ends back m.0 m.3).0 == b && m.2 == a && has_state m.1 e && (ends back m.0 m.3).1 == n

-- each cell of a state and an action has exactly the states to which some step leads
pub record HasTriples (back : Bool) (actions : ℕ) (steps : List (ℕ × ℕ × ℕ)) (masks : List ℕ) : Type 0 where
  pub has : (e a n : ℕ) → a < actions → cell_has masks (e * actions + a) n ≡ list_any (λ t. leads back t e a n) steps

-- each cell of a state, an environment state and an action has exactly the states to which some step goes
pub record HasMoves (back : Bool) (env_states actions : ℕ) (steps : List (ℕ × ℕ × ℕ × ℕ)) (masks : List ℕ) : Type 0 where
  pub has : (b e a n : ℕ) → e < env_states → a < actions → cell_has masks ((b * env_states + e) * actions + a) n ≡ list_any (λ m. goes back m b e a n) steps
