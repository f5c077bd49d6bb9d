use Rattle.roman_lanes.proofs.Common.{◌≡◌, ◌*◌, ◌≤◌, ◌==◌, take, count_by}
use Rattle.roman_lanes.proofs.cells.count_equal.Given as goal

-- the count of the blocks so far
abbrev pub invariant-loop-block : goal.invariant-loop-block
invariant-loop-block l = record { counted : l.count ≡ count_by (λ x. x == l.value) (take (l.block * 16) l.values); bound : l.count ≤ l.block * 16 }
