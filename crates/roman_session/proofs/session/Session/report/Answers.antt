use Rattle.roman_session.proofs.Common.{arith, Puts-after_Gathered}
use Rattle.roman_session.proofs.session.Session.report.Goals as goal

pub returns-clause-report : goal.returns-clause-report
returns-clause-report g c = grind (arith, Puts-after_Gathered)
