use Rattle.roman_model.proofs.CertificateLaws as laws
use Rattle.roman_model.proofs.certificates.greatest_is_complete.Goals as goal

pub returns : goal.returns
returns c = record { complete = laws.greatest_is_complete }
