-- The remaining items give the result of all items.
use Rattle.roman_parts.proofs.Common.{[], items_view, each_item, pushing, IsLeft, state_in}
use Rattle.roman_parts.proofs.guards.read_places.Given as goal

abbrev pub invariant-loop-item : goal.invariant-loop-item
invariant-loop-item l =
    IsLeft (pushing (state_in l.states l.index)) l.items l.item-index l.places.items
    (each_item (pushing (state_in l.states l.index)) 0 [] (items_view l.items))
