use Rattle.roman_check.proofs.Common.{head_line}
use Rattle.roman_check.proofs.Texts.{same_as_eq}
use Rattle.roman_check.proofs.entries.is_head.Goals as goal

pub returns : goal.returns
returns c = same_as_eq c.args.line.now c.as_slice.result.now head_line c.eq.result c.eq.ensures c.as_slice.ensures
