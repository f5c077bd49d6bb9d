use Rattle.std.proofs.Common.{◌≡◌, take}
use Rattle.roman_read.proofs.table.NameTable.copy.Given as goal

-- the copy has the names so far
abbrev pub invariant-loop-i : goal.invariant-loop-i
invariant-loop-i l = l.copy ≡ take l.i l.self
