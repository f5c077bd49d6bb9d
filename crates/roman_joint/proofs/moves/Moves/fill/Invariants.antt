use Rattle.roman_joint.proofs.Common.{FillsColumns, system_in, ◌-◌}
use Rattle.roman_joint.proofs.moves.Moves.fill.Given as goal

-- the first columns are filled
abbrev pub invariant-loop-column : goal.invariant-loop-column
invariant-loop-column l = FillsColumns (system_in l.parts) l.column l.self
