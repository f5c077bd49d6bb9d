use Rattle.roman_opening.specs.declared.status.Status.TheVariants as status
use Rattle.roman_top.proofs.Common.{refl, Pair, NamedSys, system_of, pair_at, sizes_of, Shortest, TellsShortestOf}
use Rattle.roman_top.proofs.OpeningLemmas.{related_does, says_ends}
use Rattle.roman_top.proofs.shortest.shortest.Goals as goal

pub returns-in-Ok-build : goal.returns-in-Ok-build
returns-in-Ok-build g c =
    let joint = c.in-Ok.related.relation.joint in
    let puts = c.write_depths.ensures.tells (system_of joint) c.in-Ok-build.ensures.depths in
    related_does (λ (n : NamedSys) (p : Pair). TellsShortestOf (system_of n) p) c.in-Ok.related c.args.system.now Shortest _ _ _ c.finish.result c.in-Ok.ensures.opens (λ texts library text ends tells. tells)
    ((says_ends (TellsShortestOf (system_of joint) (pair_at (sizes_of (system_of joint)) c.in-Ok.related.start)) _ _ _ _ puts.text status.Done c.finish.result c.write_depths.result tt
    (puts.tells, refl) puts.puts c.write_depths.ensures.cause c.finish.ensures).ends _ _)
