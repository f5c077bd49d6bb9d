use Rattle.roman_model.proofs.PlanLemmas.{plans_least}
use Rattle.roman_model.proofs.laws.plans_cost_least.Goals as goal

pub returns : goal.returns
returns c = record { least = plans_least }
