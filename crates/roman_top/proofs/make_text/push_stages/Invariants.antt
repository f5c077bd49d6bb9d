use Rattle.roman_top.proofs.Common.{◌≡◌, ◌++◌, drop, IsFilling, lines_of}
use Rattle.roman_top.proofs.make_text.push_stages.Given as goal

-- the lines of the stages so far were pushed
abbrev pub invariant-loop-stage : goal.invariant-loop-stage
invariant-loop-stage g l = record {
  filling : IsFilling (g.O.Sink.written l.fn.out) (g.O.Sink.written l.out) l.page (lines_of (drop l.stage-index l.stages)) (l.fn.page ++ lines_of l.stages);
  cause : g.O.Sink.faults l.out ≡ g.O.Sink.faults l.fn.out;
}
