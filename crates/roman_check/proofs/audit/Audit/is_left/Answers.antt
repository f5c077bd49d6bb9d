use Rattle.roman_check.proofs.Common.{length, is_listed}
use Rattle.roman_check.proofs.audit.Audit.is_left.Goals as goal

pub returns : goal.returns
returns c A L has = c.has.ensures (length A.nodes) c.args.p (is_listed A L) c.place-row.ensures.pair has.remain
