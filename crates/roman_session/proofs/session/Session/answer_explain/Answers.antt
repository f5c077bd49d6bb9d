use Rattle.roman_session.proofs.Common.{arith}
use Rattle.roman_session.proofs.RuleLemmas.{explains}
use Rattle.roman_session.proofs.session.Session.answer_explain.Goals as goal

pub returns-clause-step : goal.returns-clause-step
returns-clause-step g c = grind (arith, explains)
