use Rattle.roman_parts.proofs.Common.{not, ◌==◌, ◌≡◌, ◌*◌, length, take, HasTriples}
use Rattle.roman_parts.proofs.masks.triple_masks.Given as goal

-- the cells have the steps so far
abbrev pub invariant-loop-from : goal.invariant-loop-from
invariant-loop-from g l = record {
  len : length l.masks.items ≡ l.states * l.actions;
  has : HasTriples (not (g.row.BACK == 0)) l.actions (take l.from-index l.steps) l.masks.items;
}
