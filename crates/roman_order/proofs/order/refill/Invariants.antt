use Rattle.roman_order.proofs.Common.{◌-◌, ◌≡◌, ◌≤◌, replicate, vec_capacity}
use Rattle.roman_order.proofs.order.refill.Given as goal

-- the pieces so far
abbrev pub invariant-pieces : goal.invariant-pieces
invariant-pieces g l = record {
  within : l.done ≤ l.n;
  items : l.table.items ≡ replicate l.done l.value;
  room : vec_capacity l.fn.table ≤ vec_capacity l.table;
}

abbrev pub decreases-pieces : goal.decreases-pieces
decreases-pieces g l = l.n - l.done
