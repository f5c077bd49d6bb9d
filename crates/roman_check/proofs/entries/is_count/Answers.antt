use Rattle.roman_check.proofs.Common.{Decides-eqb, Some, strip_prefix_is}
use Rattle.roman_check.proofs.EntryLemmas.{counted}
use Rattle.roman_check.proofs.entries.is_count.Goals as goal

pub returns-in-Some : goal.returns-in-Some
returns-in-Some c =
    counted c.args.line.now c.as_slice.result.now c.in-Some.text.now c.args.pairs c.is_number.result c.as_slice.ensures
    (strip_prefix_is Decides-eqb c.args.line.now c.as_slice.result.now (Some c.in-Some.text) c.in-Some.ensures.cases) c.is_number.ensures.0 c.is_number.ensures.1
