use Rattle.roman_session.proofs.Common.{◌≡◌, ◌++◌, served_line, IsFilling}
use Rattle.roman_session.proofs.LineLemmas.{served_from}
use Rattle.roman_session.proofs.session.Session.push_served.Given as goal

-- the names of the seats so far were pushed
abbrev pub invariant-loop-k : goal.invariant-loop-k
invariant-loop-k g l =
    let parts = l.self.parts in
    record {
      filling : IsFilling (g.O.Sink.written l.fn.out) (g.O.Sink.written l.out) l.page (served_from parts l.mask l.k) (l.fn.page ++ served_line parts l.mask);
      cause : g.O.Sink.faults l.out ≡ g.O.Sink.faults l.fn.out;
    }
