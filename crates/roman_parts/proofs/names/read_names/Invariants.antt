-- The names so far are as many as the items so far, and the remaining items give the result of all items.
use Rattle.roman_parts.proofs.Common.{◌≡◌, [], length, items_view, each_item, IsLeft, with_name_read}
use Rattle.roman_parts.proofs.names.read_names.Given as goal

abbrev pub invariant-loop-i : goal.invariant-loop-i
invariant-loop-i l = record {
  count : length l.names ≡ l.i;
  left : IsLeft (with_name_read l.list) l.items l.i l.names (each_item (with_name_read l.list) 0 [] (items_view l.items));
}
