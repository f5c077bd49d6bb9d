use Rattle.roman_repair.proofs.Common.{arith}
use Rattle.roman_repair.proofs.BandAnswers.{none_known}
use Rattle.roman_repair.proofs.band_probe.BandProbe.nothing.Goals as goal

pub returns-clause-known : goal.returns-clause-known
returns-clause-known c A lanes gone = record { row = none_known A lanes gone _ _ _; rows = λ i h. absurd (omega (arith, h)) }
