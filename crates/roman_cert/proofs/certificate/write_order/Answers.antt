use Rattle.roman_cert.proofs.Common.{◌∙◌, subst, Puts, sizes_of, count, cert_text, length-below, system_of}
use Rattle.roman_cert.proofs.Certificates.{written_accepted}
use Rattle.roman_cert.proofs.certificate.write_order.Goals as goal

pub returns-clause-text : goal.returns-clause-text
returns-clause-text g c =
    let relation = c.args.relation.now in
    let pairs = c.pairs.ensures ∙ length-below (count (sizes_of (system_of relation.joint))) in
    subst (λ n. Puts (g.O.Sink.written c.args.out.now) (g.O.Sink.written c.write_list.new.out) (cert_text n relation.order.list) c.write_list.result) pairs c.write_list.ensures.text

pub returns-clause-accepted : goal.returns-clause-accepted
returns-clause-accepted g c complete =
    let relation = c.args.relation.now in
    let pairs = c.pairs.ensures ∙ length-below (count (sizes_of (system_of relation.joint))) in
    written_accepted relation.joint relation.order.list (g.O.Sink.written c.args.out.now) (g.O.Sink.written c.write_list.new.out) c.write_list.result c.known.ensures complete
    (subst (λ n. Puts (g.O.Sink.written c.args.out.now) (g.O.Sink.written c.write_list.new.out) (cert_text n relation.order.list) c.write_list.result) pairs c.write_list.ensures.text)
