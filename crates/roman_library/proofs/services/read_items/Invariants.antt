-- The services so far are well formed and as many as the items so far, and the remaining items give the result of all items.
use Rattle.roman_library.proofs.Common.{[], length, ◌≡◌, IsLeft, each_item, items_view, with_service_read, AreServices}
use Rattle.roman_library.proofs.services.read_items.Given as goal

abbrev pub invariant-loop-i : goal.invariant-loop-i
invariant-loop-i l = record {
  left : let add = with_service_read l.document l.version l.catalogue in IsLeft add l.items l.i l.services.items (each_item add 0 [] (items_view l.items));
  known : AreServices l.catalogue l.services.items;
  count : length l.services.items ≡ l.i;
}
