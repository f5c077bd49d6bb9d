use Rattle.roman_top.proofs.Common.{Check, FindsVerdict, IsTooLong, SaysVerdict, TooLong, numbered, system_of, verdict_of}
use Rattle.roman_top.proofs.CheckLemmas.{judged}
use Rattle.roman_top.proofs.OpeningLemmas.{opened_both, work_does}
use Rattle.roman_top.proofs.check.check_certificate.Goals as goal

pub returns-in-Ok-verdict_on : goal.returns-in-Ok-verdict_on
returns-in-Ok-verdict_on g c =
    let seated = c.in-Ok.seated in
    let verdict = c.in-Ok-verdict_on.verdict in
    work_does _ verdict (λ texts. SaysVerdict (verdict_of verdict)) c.args.system.now (Check c.args.certificate.now) _ _ _ c.tell.result
    (opened_both _ (FindsVerdict (numbered (system_of seated.joint)) seated.start c.args.certificate.now) seated verdict _ _ _ c.in-Ok.ensures.opens (c.in-Ok-verdict_on.ensures _ _))
    (λ texts is text ends says. judged texts c.args.system.now c.args.certificate.now seated (verdict_of verdict) text ends is.0 is.1 says) (c.tell.ensures.ends _ _)

pub returns : goal.returns
returns g c =
    let seated = c.in-Ok.seated in
    work_does _ seated (IsTooLong (numbered (system_of seated.joint)) seated.start c.args.certificate.now) c.args.system.now (Check c.args.certificate.now) _ _ _ c.in-Err-verdict_on.status c.in-Ok.ensures.opens
    (λ texts accepts text ends long. judged texts c.args.system.now c.args.certificate.now seated TooLong text ends accepts long.0 long.1) (c.in-Err-verdict_on.ensures _ _).ends
