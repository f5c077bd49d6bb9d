use Rattle.roman_session.proofs.Common.{◌≡◌, ◌++◌, services_and_answer, lines_text, IsFilling}
use Rattle.roman_session.proofs.LineLemmas.{services_left}
use Rattle.roman_session.proofs.session.Session.push_services.Given as goal

-- the lines of the services so far were pushed
abbrev pub invariant-loop-k : goal.invariant-loop-k
invariant-loop-k g l =
    let s = l.self in
    record {
      filling : IsFilling (g.O.Sink.written l.fn.out) (g.O.Sink.written l.out) l.page (lines_text (services_left s.parts s.here l.k)) (l.fn.page ++ lines_text (services_and_answer s.parts s.here));
      cause : g.O.Sink.faults l.out ≡ g.O.Sink.faults l.fn.out;
    }
