use Rattle.roman_opening.specs.declared.status.Status.TheVariants as status
use Rattle.roman_top.proofs.Common.{refl, Pair, NamedSys, system_of, Resilience, EndsSaying, outlook_text, pair_at, sizes_of}
use Rattle.roman_top.proofs.OpeningLemmas.{related_does, says_ends}
use Rattle.roman_top.proofs.resilience.resilience.Goals as goal

pub returns-in-Ok-build : goal.returns-in-Ok-build
returns-in-Ok-build g c =
    let joint = c.in-Ok.related.relation.joint in
    let text = outlook_text joint (pair_at (sizes_of (system_of joint)) c.in-Ok.related.start) in
    let puts = rw c.in-Ok-build.ensures.pair at c.put_outlooks.ensures.puts in
    related_does (λ (n : NamedSys) (p : Pair). EndsSaying (outlook_text n p) status.Done) c.in-Ok.related c.args.system.now Resilience _ _ _ c.finish.result c.in-Ok.ensures.opens (λ texts library text ends says. says)
    ((says_ends (EndsSaying text status.Done) _ _ _ _ text status.Done c.finish.result c.put_outlooks.result tt (refl, refl) puts c.put_outlooks.ensures.cause c.finish.ensures).ends _ _)
