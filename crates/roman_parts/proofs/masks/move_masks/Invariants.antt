use Rattle.roman_parts.proofs.Common.{not, ◌==◌, ◌≡◌, ◌*◌, length, take, HasMoves}
use Rattle.roman_parts.proofs.masks.move_masks.Given as goal

-- the cells have the steps so far
abbrev pub invariant-loop-from : goal.invariant-loop-from
invariant-loop-from g l = record {
  len : length l.masks.items ≡ l.cells.states * l.cells.env_states * l.cells.actions;
  has : HasMoves (not (g.row.BACK == 0)) l.cells.env_states l.cells.actions (take l.from-index l.steps) l.masks.items;
}
