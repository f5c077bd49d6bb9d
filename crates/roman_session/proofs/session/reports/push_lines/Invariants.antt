use Rattle.roman_session.proofs.Common.{◌≡◌, ◌++◌, drop, lines_text, IsFilling}
use Rattle.roman_session.proofs.session.reports.push_lines.Given as goal

-- the lines so far were pushed
abbrev pub invariant-loop-line : goal.invariant-loop-line
invariant-loop-line g l = record {
  filling : IsFilling (g.O.Sink.written l.fn.out) (g.O.Sink.written l.out) l.page (lines_text (drop l.line-index l.lines)) (l.fn.page ++ lines_text l.lines);
  cause : g.O.Sink.faults l.out ≡ g.O.Sink.faults l.fn.out;
}
