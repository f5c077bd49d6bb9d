-- The facts that the result of a check states about its source.
use Rattle.std.specs.Prelude.{◌≡◌, ℕ, List, [], length, Option, Result, Ok, Err}
use Rattle.roman_io.specs.Faults.{Rose}
use Rattle.roman_io.specs.Source.{Gave, Had}
use Rattle.roman_model.specs.Lines.{ended_lines}
use Rattle.roman_model.specs.Arena.{Arena}
use Rattle.roman_model.specs.Certificate as text
use Rattle.roman_model.specs.Certificate.{faults, cert_verdict}
use Rattle.roman_check.specs.declared.verdict.Verdict.{Verdict}
use Rattle.roman_check.specs.declared.verdict.Verdict.TheVariants.{Greatest, Rejected}
use Rattle.roman_check.specs.declared.error.CheckError.{CheckError}
use Rattle.roman_check.specs.declared.error.CheckError.TheVariants.{Fault, TooLong, Memory}
use Rattle.roman_check.specs.Verdicts.{verdict_of}

-- the bytes of the source have this verdict
pub record HaveVerdict (A : Arena ℕ) (start : ℕ) (told : Option (List ℕ)) (verdict : text.Verdict) : Type 0 where
  pub bytes : List ℕ
  pub had : Had told bytes
  pub judged : cert_verdict A start bytes ≡ verdict

-- no whole line of the bytes that the source gave is at fault
pub record NoneAtFault (A : Arena ℕ) (before now : Option (List ℕ)) : Type 0 where
  pub taken : List ℕ
  pub gave : Gave before now taken
  pub none : faults A (ended_lines taken) (length (ended_lines taken)) ≡ []

-- the verdict accepts the certificate
abbrev pub SaysGreatest : Verdict → Type 0
SaysGreatest (Greatest related start) = Unit {0}
SaysGreatest (Rejected line why) = ⊥

-- what each result states about the source's bytes before and now, and about its count of faults before and now
abbrev pub IsComing : Arena ℕ → ℕ → Option (List ℕ) → Option (List ℕ) → ℕ → ℕ → Result Verdict CheckError → Type 0
IsComing A start before now old new (Ok verdict) = HaveVerdict A start before (verdict_of verdict) × (new ≡ old)
IsComing A start before now old new (Err Fault) = NoneAtFault A before now × Rose old new
IsComing A start before now old new (Err TooLong) = HaveVerdict A start before text.TooLong × (new ≡ old)
IsComing A start before now old new (Err Memory) = ⊥

-- the result of a check is right about the source
pub record Comes (A : Arena ℕ) (start : ℕ) (before now : Option (List ℕ)) (old new : ℕ) (answer : Result Verdict CheckError) : Type 0 where
  pub is : IsComing A start before now old new answer
