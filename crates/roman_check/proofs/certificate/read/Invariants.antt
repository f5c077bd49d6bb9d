use Rattle.roman_check.proofs.Common.{◌≡◌, ◌+◌, ◌≤◌, List, ℕ, length, Gave, MAX_CERTIFICATE_BYTES, IsInRows, IsReading}
use Rattle.roman_check.proofs.certificate.read.Given as goal

abbrev pub invariant-takes : goal.invariant-takes
invariant-takes g l = record {
  taken : List ℕ;
  gave : Gave (g.S.Source.rest l.initial.source) (g.S.Source.rest l.source) taken;
  reading : IsReading (g.J.Rules.arena l.joint) taken l.reader;
  room : l.room + length taken ≡ MAX_CERTIFICATE_BYTES;
  lines : l.reader.lines + l.room ≤ MAX_CERTIFICATE_BYTES;
  shaped : IsInRows (g.J.Rules.lanes l.joint) (length (g.J.Rules.arena l.joint).nodes) l.reader.audit.left;
  piece : length l.piece ≡ 4096;
  faults : g.S.Source.faults l.source ≡ g.S.Source.faults l.initial.source;
  borrowed : g.S.Source.borrowed l.source ≡ g.S.Source.borrowed l.initial.source;
  texts : g.S.Source.texts l.source ≡ g.S.Source.texts l.initial.source;
}

abbrev pub decreases-takes : goal.decreases-takes
decreases-takes g l = l.room
