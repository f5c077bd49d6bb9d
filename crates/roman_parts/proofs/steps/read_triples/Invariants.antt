-- The steps so far are in range, and the remaining items give the result of all items.
use Rattle.roman_parts.proofs.Common.{[], length, map, items_view, each_item, pushing, IsLeft, triple_of, AreTriples, triple_item}
use Rattle.roman_parts.proofs.steps.read_triples.Given as goal

abbrev pub invariant-loop-i : goal.invariant-loop-i
invariant-loop-i l = record {
  within : AreTriples (length l.states) (length l.actions) l.steps.items;
  left : IsLeft (pushing (triple_item l.states l.actions)) l.items l.i (map triple_of l.steps.items)
      (each_item (pushing (triple_item l.states l.actions)) 0 [] (items_view l.items));
}
