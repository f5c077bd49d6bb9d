use Rattle.roman_repair.proofs.Common.{◌≡◌, ℕ, ◌<◌, length, [], IsIn, Entry, sizes_of, count, system_of, Renames}
use Rattle.roman_repair.proofs.dying.renaming.rename_list.Given as goal

-- the entries so far are renamed, and the others are waiting
abbrev pub invariant-waiting : goal.invariant-waiting
invariant-waiting l = record {
  renamed : Renames (system_of l.joint) l.k l.fn.order.list l.order.waiting [] l.order.list;
  waiting : (x : Entry ℕ) → IsIn x l.order.waiting → x.node < count (sizes_of (system_of l.joint));
  rest : l.order ≡ record l.initial.order { list = l.order.list; waiting = l.order.waiting };
}

-- each iteration takes a waiting batch
abbrev pub decreases-waiting : goal.decreases-waiting
decreases-waiting l = length l.order.waiting
