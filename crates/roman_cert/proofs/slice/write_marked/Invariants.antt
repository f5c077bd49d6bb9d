use Rattle.roman_cert.proofs.Common.{IsAhead, IsFilling, codes, flat_map, ◌++◌, ◌≡◌, marked_text}
use Rattle.roman_cert.proofs.Rests.{rest_of}
use Rattle.roman_cert.proofs.slice.write_marked.Given as goal

-- the lines of the marked entries so far are pushed
abbrev pub invariant-loop-i : goal.invariant-loop-i
invariant-loop-i g l = record {
  filling : IsFilling (g.O.Sink.written l.fn.out) (g.O.Sink.written l.out) l.page (rest_of (marked_text l.joint l.order) l.order.list (codes "end\n") l.i) (flat_map (marked_text l.joint l.order) l.order.list ++ codes "end\n");
  ahead : IsAhead l.order l.i l.ahead;
  cause : g.O.Sink.faults l.out ≡ g.O.Sink.faults l.fn.out;
}
