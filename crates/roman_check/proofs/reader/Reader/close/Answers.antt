use Rattle.roman_check.proofs.ReaderLemmas.{closed_empty}
use Rattle.roman_check.proofs.reader.Reader.close.Goals as goal

pub returns-then-is_empty-clause-closed : goal.returns-then-is_empty-clause-closed
returns-then-is_empty-clause-closed g c = closed_empty _ _ (c.is_empty.ensures.0 c.if-is_empty.true)
