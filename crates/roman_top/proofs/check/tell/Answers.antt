use Rattle.roman_opening.specs.declared.status.Status.TheVariants as status
use Rattle.roman_top.proofs.Common.{refl, fault_of, verdict_of, SaysVerdict, greatest_text, rejected_text}
use Rattle.roman_top.proofs.OpeningLemmas.{says_ends}
use Rattle.roman_top.proofs.check.tell.Goals as goal

pub returns-in-Greatest : goal.returns-in-Greatest
returns-in-Greatest g c =
    says_ends (SaysVerdict (verdict_of c.args.verdict)) _ _ _ _ (greatest_text c.in-Greatest.related c.in-Greatest.start) status.Done c.finish.result c.put_greatest.result tt (rw c.in-Greatest.is (refl, refl))
    c.put_greatest.ensures.puts c.put_greatest.ensures.cause c.finish.ensures

pub returns-in-Rejected : goal.returns-in-Rejected
returns-in-Rejected g c =
    says_ends (SaysVerdict (verdict_of c.args.verdict)) _ _ _ _ (rejected_text c.in-Rejected.line (fault_of c.in-Rejected.why)) status.No c.finish-in-Rejected.result c.put_rejected.result tt (rw c.in-Rejected.is (refl, refl))
    c.put_rejected.ensures.puts c.put_rejected.ensures.cause c.finish-in-Rejected.ensures
