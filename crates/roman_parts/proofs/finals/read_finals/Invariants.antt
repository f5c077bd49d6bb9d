-- The final states so far are in range, and the remaining items give the result of all items.
use Rattle.roman_parts.proofs.Common.{◌<◌, [], length, items_view, each_item, pushing, IsLeft, place_in, Finals}
use Rattle.std.specs.List.{All}
use Rattle.roman_parts.proofs.finals.read_finals.Given as goal

abbrev pub invariant-loop-i : goal.invariant-loop-i
invariant-loop-i l = record {
  within : All (λ b. b < length l.states) l.finals.items;
  left : IsLeft (pushing (place_in l.states Finals)) l.items l.i l.finals.items
      (each_item (pushing (place_in l.states Finals)) 0 [] (items_view l.items));
}
