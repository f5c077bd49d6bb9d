use Rattle.roman_opening.specs.declared.status.Status.TheVariants as status
use Rattle.roman_top.proofs.Common.{refl, Pair, NamedSys, system_of, sizes_of, count, cert_text, Certify, CertifiesSystem}
use Rattle.roman_top.proofs.OpeningLemmas.{related_does, says_ends}
use Rattle.roman_top.proofs.certify.certify.Goals as goal

pub returns-in-Ok : goal.returns-in-Ok
returns-in-Ok g c =
    let r = c.in-Ok.related.relation in
    related_does (λ (n : NamedSys) (p : Pair). CertifiesSystem (system_of n)) c.in-Ok.related c.args.system.now Certify _ _ _ c.finish.result c.in-Ok.ensures.opens (λ texts library text ends certifies. certifies)
    ((says_ends (CertifiesSystem (system_of r.joint)) _ _ _ _ (cert_text (count (sizes_of (system_of r.joint))) r.order.list) status.Done c.finish.result c.write_order.result tt
    (record { list = r.order.list; complete = c.in-Ok.ensures.related.1.whole.complete.list; says = (refl, refl) }) c.write_order.ensures.text c.write_order.ensures.cause c.finish.ensures).ends _ _)
