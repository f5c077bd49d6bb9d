use Rattle.roman_session.proofs.Common.{◌≡◌, ◌++◌, offers_and_end, lines_text, IsFilling}
use Rattle.roman_session.proofs.LineLemmas.{offers_from}
use Rattle.roman_session.proofs.session.Session.push_offers.Given as goal

-- the lines of the actions so far were pushed
abbrev pub invariant-loop-a : goal.invariant-loop-a
invariant-loop-a g l =
    let s = l.self in
    record {
      filling : IsFilling (g.O.Sink.written l.fn.out) (g.O.Sink.written l.out) l.page (offers_from s.parts s.here l.a) (l.fn.page ++ lines_text (offers_and_end s.parts s.here));
      cause : g.O.Sink.faults l.out ≡ g.O.Sink.faults l.fn.out;
    }
