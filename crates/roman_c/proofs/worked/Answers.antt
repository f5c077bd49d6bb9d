use Rattle.roman_c.proofs.Common.{ap, reply_in, rules}
use Rattle.roman_c.proofs.JobLemmas.{memory_done, missing_done}
use Rattle.roman_c.proofs.worked.Goals as goal

pub returns-in_default-take-clause-works : goal.returns-in_default-take-clause-works
returns-in_default-take-clause-works g c =
    record { among = search rules; none = search rules; done = λ named. missing_done _ _ _ _ (ap reply_in c.take.ensures.left) }

pub returns-in-Err-clause-works : goal.returns-in-Err-clause-works
returns-in-Err-clause-works g c = record { among = search rules; none = search rules; done = λ named. memory_done _ _ _ _ (ap reply_in c.in-Err.ensures.err) }
