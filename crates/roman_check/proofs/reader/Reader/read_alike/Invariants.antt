use Rattle.roman_check.proofs.Common.{◌≡◌, ◌-◌, None, length, IsPattern, IsBetween, ReadsPart}
use Rattle.roman_check.proofs.reader.Reader.read_alike.Given as goal

-- the entries so far are read, and the row that was probed last stays
abbrev pub invariant-loop-start : goal.invariant-loop-start
invariant-loop-start g l = record {
  pattern : IsPattern l.text l.shape;
  probe : l.self.audit.probe ≡ l.initial.self.audit.probe;
  read : ReadsPart (g.J.Rules.arena l.joint) (g.J.Rules.lanes l.joint) l.initial.self l.self l.piece l.from l.start None;
  between : IsBetween l.self;
}

abbrev pub decreases-loop-start : goal.decreases-loop-start
decreases-loop-start g l = length l.piece - l.start
