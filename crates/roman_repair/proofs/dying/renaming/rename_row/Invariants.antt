use Rattle.roman_repair.proofs.Common.{◌≡◌, ◌≢◌, ℕ, ◌<◌, true, length, is_on, set_lanes, system_of, lanes_in, entries_at, Renames}
use Rattle.roman_repair.proofs.dying.renaming.rename_row.Given as goal

-- the entries for the remaining lanes are still to be renamed
abbrev pub invariant-left : goal.invariant-left
invariant-left l = let s = system_of l.joint in record {
  renamed : Renames s l.leaver.k (entries_at (lanes_in s) l.batch) (entries_at (lanes_in s) (record l.batch { lanes = l.left })) l.fn.order.list l.order.list;
  rest : l.order ≡ record l.fn.order { list = l.order.list };
  within : (lane : ℕ) → is_on l.left lane ≡ true → is_on l.batch.lanes lane ≡ true;
  some : l.left ≢ 0 → 0 < length (set_lanes l.left);
}

-- each iteration takes at least one lane
abbrev pub decreases-left : goal.decreases-left
decreases-left l = length (set_lanes l.left)
