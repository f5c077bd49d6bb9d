use Rattle.roman_hearing.proofs.Common.{◌≡◌, ◌++◌, List, ℕ, length, Cursor, reader_state, IsHearing}
use Rattle.roman_hearing.proofs.hearing.hear_bytes.Given as goal

-- the bytes before the rest were read
abbrev pub invariant-lines : goal.invariant-lines
invariant-lines g l = record {
  done : List ℕ;
  split : l.bytes ≡ done ++ l.rest;
  hears : (old : Cursor) (taken : List ℕ) → IsHearing old taken (reader_state l.initial.session (g.O.Sink.written l.initial.out) l.initial.page l.initial.splitter) →
      IsHearing old (taken ++ done) (reader_state l.session (g.O.Sink.written l.out) l.page l.splitter);
  faults : g.O.Sink.faults l.out ≡ g.O.Sink.faults l.initial.out;
}

abbrev pub decreases-lines : goal.decreases-lines
decreases-lines g l = length l.rest
