use Rattle.roman_cost.proofs.Common.{[], map, items_view, each_item, IsLeft, beh_name, with_cost, AreOf}
use Rattle.roman_cost.proofs.reading.read_items.Given as goal

-- the costs so far are of the system, and the rest of the items gives what all items give
abbrev pub invariant-loop-i : goal.invariant-loop-i
invariant-loop-i l = record {
  of : AreOf l.joint l.costs;
  left : IsLeft (with_cost (map beh_name l.joint.catalogue) l.joint.environment.actions) l.items l.i l.costs.listed
      (each_item (with_cost (map beh_name l.joint.catalogue) l.joint.environment.actions) 0 [] (items_view l.items));
}
