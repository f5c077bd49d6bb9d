-- The numbers of the errors.
use Rattle.std.specs.Prelude.{ℕ}
use Rattle.roman_make.specs.declared.error.MakeError.{MakeError}
use Rattle.roman_make.specs.declared.error.MakeError.TheVariants.{Range, Memory}

-- the numbers of the errors, in their order
abbrev pub make_error_number : MakeError → ℕ
make_error_number Range = 1
make_error_number Memory = 2
