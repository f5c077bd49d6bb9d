use Rattle.roman_c.proofs.Common.{refl, rules}
use Rattle.roman_c.proofs.JobLemmas.{missing_done}
use Rattle.roman_c.proofs.content.Content.work.Goals as goal

pub returns-in-Talk-clause-works : goal.returns-in-Talk-clause-works
returns-in-Talk-clause-works g c = record { among = search rules; none = refl; done = missing_done _ _ _ _ c.new.ensures }
