use Rattle.roman_order.proofs.Common.{◌-◌, ◌≡◌, ◌≤◌, length, take, vec_capacity}
use Rattle.roman_order.proofs.order.rewrite.Given as goal

-- the table has the items so far
abbrev pub invariant-pieces : goal.invariant-pieces
invariant-pieces g l = record {
  within : l.done ≤ length l.items;
  items : l.table.items ≡ take l.done l.items;
  room : vec_capacity l.fn.table ≤ vec_capacity l.table;
}

abbrev pub decreases-pieces : goal.decreases-pieces
decreases-pieces g l = length l.items - l.done
