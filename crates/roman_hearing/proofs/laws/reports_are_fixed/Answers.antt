use Rattle.roman_hearing.proofs.FixedLemmas.{reports_fixed}
use Rattle.roman_hearing.proofs.laws.reports_are_fixed.Goals as goal

pub returns : goal.returns
returns c = record { fixed = reports_fixed }
