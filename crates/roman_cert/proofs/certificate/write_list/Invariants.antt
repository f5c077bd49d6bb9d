use Rattle.roman_cert.proofs.Common.{IsAhead, IsFilling, IsTemplate, cert_text, codes, ◌≡◌}
use Rattle.roman_cert.proofs.Rests.{rest_of}
use Rattle.roman_cert.proofs.Certificates.{line_of}
use Rattle.roman_cert.proofs.certificate.write_list.Given as goal

-- the lines so far are pushed
abbrev pub invariant-loop-i : goal.invariant-loop-i
invariant-loop-i g l = record {
  filling : IsFilling (g.O.Sink.written l.fn.out) (g.O.Sink.written l.out) l.page (rest_of line_of l.order.list (codes "end\n") l.i) (cert_text l.pairs l.order.list);
  template : IsTemplate l.template;
  ahead : IsAhead l.order l.i l.ahead;
  cause : g.O.Sink.faults l.out ≡ g.O.Sink.faults l.fn.out;
}
