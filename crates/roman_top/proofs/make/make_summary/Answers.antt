use Rattle.roman_opening.specs.declared.status.Status.TheVariants as status
use Rattle.roman_top.proofs.Common.{refl, ◌++◌, plain, DoesMake, made_line, lines_of}
use Rattle.roman_top.proofs.MakeLemmas.{made_start, not_past_limit}
use Rattle.roman_top.proofs.OpeningLemmas.{says_ends}
use Rattle.roman_top.proofs.make.make_summary.Goals as goal

pub unreachable-requires-in-Err-Limit : goal.unreachable-requires-in-Err-Limit
unreachable-requires-in-Err-Limit g c =
    not_past_limit (plain c.in-Ok.library) c.args.workers.count c.in-Ok.ensures.library c.args.workers.few (rw c.in-Err-Limit.field-0-is at c.in-Err-Limit.ensures.limit)

pub returns : goal.returns
returns g c =
    let known = made_start (plain c.in-Ok.library) c.args.workers.count c.in-Ok-build.session c.in-Ok.ensures.library c.args.workers.few c.in-Ok.ensures.known c.in-Ok-build.ensures.start in
    let start = rw c.in-Ok.ensures.library at c.in-Ok-build.ensures.start in
    says_ends (DoesMake c.args.workers.count) _ _ _ _ (made_line c.args.workers.count ++ lines_of c.run_script-stages.result) status.Done c.finish.result c.put_summary.result tt
    (record { start = c.in-Ok-build.session; begins = start; known = known; rest = lines_of c.run_script-stages.result; passes = c.run_script-stages.ensures; whole = refl }, refl)
    c.put_summary.ensures.puts c.put_summary.ensures.cause c.finish.ensures
