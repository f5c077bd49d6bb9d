use Rattle.roman_order.proofs.Common.{◌≡◌, ◌++◌, entries_in_rows}
use Rattle.roman_order.proofs.order.Order.push_rows.Given as goal

-- the rows so far have their entries
abbrev pub invariant-loop-i : goal.invariant-loop-i
invariant-loop-i l = l.self ≡ record l.fn.self { list = l.fn.self.list ++ entries_in_rows l.fn.self.lanes l.x l.i l.lost l.reason }
