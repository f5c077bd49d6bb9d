use Rattle.roman_opening.proofs.Common.{plain, IsStart}
use Rattle.roman_opening.proofs.OpeningLemmas.{opens_none, opens_ok, opens_past_limit}
use Rattle.roman_opening.proofs.opening.open_session.Goals as goal

pub returns-in-Ok-build-clause-opens : goal.returns-in-Ok-build-clause-opens
returns-in-Ok-build-clause-opens g c =
    let read = c.in-Ok.ensures.reads in
    opens_ok IsStart c.in-Ok-build.session c.args.name.now (plain c.in-Ok.library) _ _ read.holds read.same c.in-Ok-build.ensures.limit c.in-Ok-build.ensures.start

pub returns-in-Err-Limit-clause-opens : goal.returns-in-Err-Limit-clause-opens
returns-in-Err-Limit-clause-opens g c =
    let read = c.in-Ok.ensures.reads in
    opens_past_limit c.args.name.now (plain c.in-Ok.library) _ _ _ _ c.finish.result c.put_limit.result read.holds read.same
    (rw c.in-Err-Limit.field-0-is at c.in-Err-Limit.ensures.limit) c.put_limit.ensures.puts c.put_limit.ensures.cause c.finish.ensures

pub returns-in-Err-Memory-clause-opens : goal.returns-in-Err-Memory-clause-opens
returns-in-Err-Memory-clause-opens g c = opens_none _ _ _ c.in-Ok.ensures.reads.same
