use Rattle.roman_cert.proofs.Common.{Act, IsFilling, [], length, ◌++◌, ◌≡◌, answers_text, as_entry, below, system_of}
use Rattle.roman_cert.proofs.Rests.{rest_of}
use Rattle.roman_cert.proofs.AnswerTexts.{seat_text}
use Rattle.roman_cert.proofs.slice.push_answers.Given as goal

-- the lines of the services so far are pushed
abbrev pub invariant-loop-k : goal.invariant-loop-k
invariant-loop-k g l = record {
  filling : IsFilling (g.O.Sink.written l.fn.out) (g.O.Sink.written l.out) l.page (rest_of (seat_text l.joint l.order.list l.entry.pair l.a) (below (length (system_of l.joint).seats)) [] l.k) (l.fn.page ++ answers_text l.joint l.order.list (as_entry (l.entry.pair, Act l.a)));
  cause : g.O.Sink.faults l.out ≡ g.O.Sink.faults l.fn.out;
}
