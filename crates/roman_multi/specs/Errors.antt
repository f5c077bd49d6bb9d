-- The numbers of the errors.
use Rattle.std.specs.Prelude.{ℕ}
use Rattle.roman_multi.specs.declared.error.CombineError.{CombineError}
use Rattle.roman_multi.specs.declared.error.CombineError.TheVariants.{States, Actions, LongName, Repeated, Memory}

-- the numbers of the errors, in their order
abbrev pub combine_error_number : CombineError → ℕ
combine_error_number States = 1
combine_error_number Actions = 2
combine_error_number LongName = 3
combine_error_number Repeated = 4
combine_error_number Memory = 5
