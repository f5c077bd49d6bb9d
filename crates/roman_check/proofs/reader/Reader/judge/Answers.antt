use Rattle.roman_check.proofs.ReaderLemmas.{judged_long}
use Rattle.roman_check.proofs.reader.Reader.judge.Goals as goal

pub returns-in-None-clause-judged : goal.returns-in-None-clause-judged
returns-in-None-clause-judged g c bytes held = judged_long _ c.known.ensures.numbered _ _ (c.in-None.ensures _ (c.extend.ensures bytes held))
