-- How the parts of a run end: the status that they return, and the text that they wrote.
use Rattle.std.specs.Prelude.{◌≡◌, ℕ, Bool, true, false, List, [], Option, Result, Ok, Err, OnOk, IsErrOf}
use Rattle.roman_io.specs.Shelf.{Texts, shelf_text}
use Rattle.roman_io.specs.declared.shelf.Shelf.{Ghosts as ShelfView}
use Rattle.roman_io.specs.declared.sink.Sink.{Ghosts as SinkView}
use Rattle.roman_model.specs.Arena.{Arena}
use Rattle.roman_model.specs.Certificate.{TooLong, cert_verdict}
use Rattle.roman_check.specs.Verdicts.{verdict_of}
use Rattle.roman_check.specs.declared.verdict.Verdict.{Verdict}
use Rattle.roman_hearing.specs.Hearing.{Cursor, StreamState, IsHeardOut, IsCutOff, GoesOn, TellsPrefixOfAll}
use Rattle.roman_hearing.specs.Known.{AreBehaviours}
use Rattle.roman_hearing.specs.declared.hearing.HearError.{HearError}
use Rattle.roman_hearing.specs.declared.hearing.HearError.TheVariants as hear
use Rattle.roman_opening.specs.Endings.{Ends}
use Rattle.roman_opening.specs.Opening.{document_opening, OnOpening}
use Rattle.roman_opening.specs.Outputs.{Outputs, outputs, outputs_of}
use Rattle.roman_opening.specs.declared.status.Status.TheVariants as status
use Rattle.roman_opening.specs.declared.status.Status.{Status}
use Rattle.roman_top.specs.Command.{Job}
use Rattle.roman_top.specs.Run.{SaysVerdict, JobDoes}

-- such a run ended, for any texts of the shelf
pub record Prints (IsRun : List ℕ → Status → Type 0) (old : Option (List ℕ)) (faults : ℕ) (new : Option (List ℕ)) (faults_now : ℕ) (result : Status) : Type 0 where
  pub ends : (told : Option Texts) (shelf : ℕ) → Ends (λ texts. IsRun) (outputs told shelf old faults) (outputs told shelf new faults_now) result

-- such a run ended, in words for contracts at a bound `O: Sink`
abbrev pub PrintsTo : {X : Type 0} → SinkView X → (List ℕ → Status → Type 0) → X → X → Status → Type 0
PrintsTo O IsRun old new result = Prints IsRun (O.written old) (O.faults old) (O.written new) (O.faults new) result

-- the effect of a job on the document of that name, on a shelf and a sink alone
pub record DoesJob (name : List ℕ) (job : Job) (old new : Outputs) (result : Status) : Type 0 where
  pub ends : Ends (λ texts. OnOpening (JobDoes job texts []) (document_opening texts name)) old new result

-- the effect of a job, in words for contracts at bounds `F: Shelf` and `O: Sink`
abbrev pub DoesJobOn : {F O : Type 0} → ShelfView F → SinkView O → List ℕ → Job → F → O → F → O → Status → Type 0
DoesJobOn F O name job shelf out shelf_now out_now result = DoesJob name job (outputs_of F O shelf out) (outputs_of F O shelf_now out_now) result

-- the status that states whether a pair is related
abbrev pub status_of : Bool → Status
status_of true = status.Done
status_of false = status.No

-- ---- sessions

-- a session would continue after a prefix of its bytes
abbrev pub GoesOnFrom : StreamState → Cursor → Type 0
GoesOnFrom old new = (has : Option (List ℕ)) × GoesOn old (record { cursor = new; rest = has })

-- the replies that were written of a session that was read from a text of the shelf, by its result
pub record RunsText (old : StreamState) (new : Cursor) (result : Result (Unit {0}) HearError) : Type 0 where
  pub ok : OnOk result (IsHeardOut old new)
  pub too_long : IsErrOf result hear.TooLong → IsCutOff old new
  pub read_fault : IsErrOf result hear.ReadFault → GoesOnFrom old new
  pub prefix : IsErrOf result hear.WriteFault → AreBehaviours old.cursor.situation.parts → TellsPrefixOfAll old new.written

-- the status after a session, with `fault` after a failed read
abbrev pub run_status : Status → Result (Unit {0}) HearError → Status
run_status fault (Ok x) = status.Done
run_status fault (Err hear.ReadFault) = fault
run_status fault (Err hear.WriteFault) = status.WriteFault
run_status fault (Err hear.TooLong) = status.TooLong

-- ---- certificates

-- the certificate has this verdict
abbrev pub FindsVerdict : Arena ℕ → ℕ → List ℕ → Texts → Verdict → Type 0
FindsVerdict A start name texts verdict = cert_verdict A start (shelf_text texts name) ≡ verdict_of verdict

-- the certificate is too long
abbrev pub IsTooLong : Arena ℕ → ℕ → List ℕ → Texts → List ℕ → Status → Type 0
IsTooLong A start name texts out result = (cert_verdict A start (shelf_text texts name) ≡ TooLong) × SaysVerdict TooLong out result
