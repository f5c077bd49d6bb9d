use Rattle.roman_check.proofs.Common.{◌-◌, None, length, ReadsPart}
use Rattle.roman_check.proofs.reader.Reader.feed.Given as goal

-- the lines that end so far are read
abbrev pub invariant-lines : goal.invariant-lines
invariant-lines g l = record { read : ReadsPart (g.J.Rules.arena l.joint) (g.J.Rules.lanes l.joint) l.initial.self l.self l.piece 0 l.from None }

abbrev pub decreases-lines : goal.decreases-lines
decreases-lines g l = length l.piece - l.from
