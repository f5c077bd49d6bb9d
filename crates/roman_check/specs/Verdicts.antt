-- The results of the checker as those of the certificate format.
use Rattle.std.specs.Prelude.{ℕ}
use Rattle.roman_model.specs.Certificate as text
use Rattle.roman_check.specs.declared.verdict.Why.{Why}
use Rattle.roman_check.specs.declared.verdict.Why.TheVariants.{Form, Repeated, Unjustified, Unlisted}
use Rattle.roman_check.specs.declared.verdict.Verdict.{Verdict}
use Rattle.roman_check.specs.declared.verdict.Verdict.TheVariants.{Greatest, Rejected}
use Rattle.roman_check.specs.declared.error.CheckError.{CheckError}
use Rattle.roman_check.specs.declared.error.CheckError.TheVariants.{Fault, TooLong, Memory}

-- the number of a fault, from 1
abbrev pub why_number : Why → ℕ
why_number Form = 1
why_number Repeated = 2
why_number Unjustified = 3
why_number (Unlisted pair) = 4

-- the number of an error, from 1
abbrev pub error_number : CheckError → ℕ
error_number Fault = 1
error_number TooLong = 2
error_number Memory = 3

-- the fault of a line as that of the format
abbrev pub fault_of : Why → text.Why
fault_of Form = text.Form
fault_of Repeated = text.Repeated
fault_of Unjustified = text.Unjustified
fault_of (Unlisted pair) = text.Unlisted pair

-- the verdict as that of the format
abbrev pub verdict_of : Verdict → text.Verdict
verdict_of (Greatest related start) = text.Greatest related start
verdict_of (Rejected line why) = text.Rejected line (fault_of why)
