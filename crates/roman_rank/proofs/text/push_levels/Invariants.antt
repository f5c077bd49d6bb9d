use Rattle.roman_rank.proofs.Common.{◌≡◌, ◌++◌, drop, level_lines, IsFilling}
use Rattle.roman_rank.proofs.text.push_levels.Given as goal

-- the lines so far are pushed
abbrev pub invariant-loop-n : goal.invariant-loop-n
invariant-loop-n g l = record {
  filling : IsFilling (g.O.Sink.written l.fn.out) (g.O.Sink.written l.out) l.page (level_lines l.n (drop l.n l.counts)) (l.fn.page ++ level_lines 0 l.counts);
  cause : g.O.Sink.faults l.out ≡ g.O.Sink.faults l.fn.out;
}
