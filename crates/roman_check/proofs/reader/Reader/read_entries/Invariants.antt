use Rattle.roman_check.proofs.Common.{◌-◌, None, length, IsIn, reasons, IsPattern, IsBetween, ReadsPart}
use Rattle.roman_check.proofs.reader.Reader.read_entries.Given as goal

-- the entries so far are read, and an entry or the last line is due
abbrev pub invariant-loop-pair : goal.invariant-loop-pair
invariant-loop-pair g l = record {
  pattern : IsPattern l.pattern.text l.pattern.shape;
  reason : IsIn l.pattern.shape.reason (reasons l.actions);
  read : ReadsPart (g.J.Rules.arena l.joint) (g.J.Rules.lanes l.joint) l.initial.self l.self l.piece l.from l.start None;
  between : IsBetween l.self;
}

abbrev pub decreases-loop-pair : goal.decreases-loop-pair
decreases-loop-pair g l = length l.piece - l.start
