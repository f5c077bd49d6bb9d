use Rattle.roman_hearing.proofs.Common.{◌≡◌, ◌+◌, List, [], ℕ, length, Gave, MAX_SESSION_BYTES, cursor, reader_state, IsHearing}
use Rattle.roman_hearing.proofs.hearing.hear.Given as goal

abbrev pub invariant-takes : goal.invariant-takes
invariant-takes g l = record {
  taken : List ℕ;
  gave : Gave (g.S.Source.rest l.initial.source) (g.S.Source.rest l.source) taken;
  hearing : IsHearing (cursor l.initial.session (g.O.Sink.written l.initial.out)) taken (reader_state l.session (g.O.Sink.written l.out) l.page l.splitter);
  page : l.page ≡ [];
  room : l.room + length taken ≡ MAX_SESSION_BYTES;
  piece : length l.piece ≡ 4096;
  reads : g.S.Source.faults l.source ≡ g.S.Source.faults l.initial.source;
  writes : g.O.Sink.faults l.out ≡ g.O.Sink.faults l.initial.out;
  borrowed : g.S.Source.borrowed l.source ≡ g.S.Source.borrowed l.initial.source;
  texts : g.S.Source.texts l.source ≡ g.S.Source.texts l.initial.source;
}

abbrev pub decreases-takes : goal.decreases-takes
decreases-takes g l = l.room
