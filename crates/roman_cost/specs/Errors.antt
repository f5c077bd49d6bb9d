-- The numbers of the errors, in the order of the variants.
use Rattle.std.specs.Prelude.{ℕ}
use Rattle.roman_cost.specs.declared.error.CostError.{CostError}
use Rattle.roman_cost.specs.declared.error.CostError.TheVariants as cost
use Rattle.roman_cost.specs.declared.error.AdviceError.{AdviceError}
use Rattle.roman_cost.specs.declared.error.AdviceError.TheVariants as advice

-- the errors of reading costs
abbrev pub cost_error_number : CostError → ℕ
cost_error_number cost.Fault = 1
cost_error_number (cost.Refused kind whole index) = 2
cost_error_number cost.Memory = 3

-- the errors of building advice
abbrev pub advice_error_number : AdviceError → ℕ
advice_error_number advice.Limit = 1
advice_error_number advice.Memory = 2
