-- The parts so far are well formed and as many as the items so far, the remaining items give the result of all items, and the shelf is as before.
use Rattle.roman_library.proofs.Common.{Some, [], length, ◌≡◌, Texts, IsLeft, each_item, items_view, with_listed}
use Rattle.roman_library.proofs.listing.load_items.Given as goal

abbrev pub invariant-loop-i : goal.invariant-loop-i
invariant-loop-i g l = record {
  left : (texts : Texts) → g.F.Shelf.texts l.initial.shelf ≡ Some texts →
      let add = with_listed g.P.Listed.part_at g.P.Listed.meaning texts l.document l.environment in IsLeft add l.items l.i l.parts.items (each_item add 0 [] (items_view l.items));
  known : g.P.Listed.are_known l.environment l.parts.items;
  count : length l.parts.items ≡ l.i;
  texts : g.F.Shelf.texts l.shelf ≡ g.F.Shelf.texts l.initial.shelf;
  faults : g.F.Shelf.faults l.shelf ≡ g.F.Shelf.faults l.initial.shelf;
}
