-- The steps so far are in range and as many as the items so far, and the remaining items give the result of all items.
use Rattle.roman_parts.proofs.Common.{◌≡◌, ◌<◌, ◌^◌, [], length, map, items_view, each_item, pushing, IsLeft, move_of, AreMoves, move_item}
use Rattle.std.specs.List.{All}
use Rattle.roman_parts.proofs.steps.read_moves.Given as goal

abbrev pub invariant-loop-i : goal.invariant-loop-i
invariant-loop-i l = record {
  count : length l.steps.items ≡ l.i;
  within : AreMoves (length l.states) (length l.actions) l.steps.items;
  guards : All (λ m. m.1 < 2 ^ length l.env_states) l.steps.items;
  left : IsLeft (pushing (move_item l.env_states l.actions l.states)) l.items l.i (map move_of l.steps.items)
      (each_item (pushing (move_item l.env_states l.actions l.states)) 0 [] (items_view l.items));
}
