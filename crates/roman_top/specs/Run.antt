-- Runs: the text and the status of a call, given its words, the texts of the shelf and the bytes of the session.
use Rattle.std.specs.Prelude.{◌≡◌, ℕ, List, [], Option, None, Some, IfSome, if◌then◌else◌}
use Rattle.roman_io.specs.Shelf.{Texts, shelf_text}
use Rattle.roman_io.specs.Sink.{Wrote}
use Rattle.roman_io.specs.Source.{Had}
use Rattle.roman_model.specs.System.{Sys, Pair}
use Rattle.roman_model.specs.Arena.{Entry}
use Rattle.roman_model.specs.Composition.{Great}
use Rattle.roman_model.specs.Numbers.{sizes_of, count, number, numbered, IsCompleteList}
use Rattle.roman_model.specs.Certificate.{Verdict, Greatest, Rejected, TooLong, cert_text, cert_verdict}
use Rattle.roman_library.specs.Library.{PlainLibrary}
use Rattle.roman_session.specs.Reports.{report_text}
use Rattle.roman_start.specs.Starts.{parts_of, start_pair_of}
use Rattle.roman_hearing.specs.Hearing.{heard_lines, is_heard_out}
use Rattle.roman_rank.specs.DepthText.{TellsDepths}
use Rattle.roman_opening.specs.Opening.{EndsSaying, library_system, document_opening, OnOpening}
use Rattle.roman_opening.specs.declared.status.Status.TheVariants as status
use Rattle.roman_opening.specs.declared.status.Status.{Status}
use Rattle.roman_top.specs.Command.{Job, Synth, Run, Certify, Check, Shortest, Advise, Resilience, Command, On, Make, usage_line}
use Rattle.roman_top.specs.AdviseText.{DoesAdvise}
use Rattle.roman_top.specs.MakeText.{MakesSummary}
use Rattle.roman_top.specs.ResilienceText.{outlook_text}
use Rattle.roman_top.specs.Sessions.{ToldFromStart}
use Rattle.roman_top.specs.CheckText.{greatest_text, rejected_text}
use Rattle.roman_top.specs.World.{World}

-- ---- the effect of each command; a job has an accepted document within its limit

-- the status is Done if the pair is related, and No if it isn't
abbrev pub EndsBy : Sys → Pair → Status → Type 0
EndsBy s p status.Done = Great s p
EndsBy s p status.No = Great s p → ⊥
EndsBy s p _ = ⊥

-- synth: the report on the starting states
abbrev pub DoesSynth : PlainLibrary → List ℕ → Status → Type 0
DoesSynth library out result =
    (out ≡ report_text (parts_of library) (start_pair_of library)) × EndsBy (library_system library) (start_pair_of library) result

-- the certificate of a complete removal list
pub record CertifiesSystem (s : Sys) (out : List ℕ) (result : Status) : Type 0 where
  pub list : List (Entry ℕ)
  pub complete : IsCompleteList s list
  pub says : EndsSaying (cert_text (count (sizes_of s)) list) status.Done out result

-- certify: the certificate of the system
abbrev pub DoesCertify : PlainLibrary → List ℕ → Status → Type 0
DoesCertify library out result = CertifiesSystem (library_system library) out result

-- the text and status for a verdict on a certificate
abbrev pub SaysVerdict : Verdict → List ℕ → Status → Type 0
SaysVerdict (Greatest related start) out result = EndsSaying (greatest_text related start) status.Done out result
SaysVerdict (Rejected line why) out result = EndsSaying (rejected_text line why) status.No out result
SaysVerdict TooLong out result = EndsSaying [] status.TooLong out result

-- check: the verdict on the certificate
abbrev pub DoesCheck : List ℕ → PlainLibrary → List ℕ → Status → Type 0
DoesCheck certificate library out result =
    let s = library_system library in
    SaysVerdict (cert_verdict (numbered s) (number (sizes_of s) (start_pair_of library)) certificate) out result

-- the text gives the depths of the system's pairs, and for the start pair the least number of requests within which the
-- opponent wins against every delegation
abbrev pub TellsShortestOf : Sys → Pair → List ℕ → Status → Type 0
TellsShortestOf s p out result = TellsDepths s p out × (result ≡ status.Done)

-- shortest: the depths of the system's pairs, and the depth of the starting states
abbrev pub DoesShortest : PlainLibrary → List ℕ → Status → Type 0
DoesShortest library out result = TellsShortestOf (library_system library) (start_pair_of library) out result

-- resilience: the outlook of the starting states, and their outlook after services fail
abbrev pub DoesResilience : PlainLibrary → List ℕ → Status → Type 0
DoesResilience library out result = EndsSaying (outlook_text (parts_of library) (start_pair_of library)) status.Done out result

-- run: the replies to the lines of the session; if it is too long, to the lines that end within the limit
abbrev pub DoesRun : List ℕ → PlainLibrary → List ℕ → Status → Type 0
DoesRun session library out result = ToldFromStart library (heard_lines session) out × (result ≡ (if is_heard_out session then status.Done else status.TooLong))

-- make: the summary of the system of n workers
abbrev pub DoesMake : ℕ → List ℕ → Status → Type 0
DoesMake n out result = MakesSummary n out × (result ≡ status.Done)

-- the effect of each job
abbrev pub JobDoes : Job → Texts → List ℕ → PlainLibrary → List ℕ → Status → Type 0
JobDoes Synth texts session = DoesSynth
JobDoes (Run name) texts session = DoesRun session
JobDoes Certify texts session = DoesCertify
JobDoes (Check certificate) texts session = DoesCheck (shelf_text texts certificate)
JobDoes Shortest texts session = DoesShortest
JobDoes (Advise costs requests) texts session = DoesAdvise costs requests texts
JobDoes Resilience texts session = DoesResilience

-- ---- runs

-- the text and status of a run, for a command or for words that form none
abbrev pub Runs : Option Command → Texts → List ℕ → List ℕ → Status → Type 0
Runs None texts session out result = EndsSaying usage_line status.Usage out result
Runs (Some (On system job)) texts session out result = OnOpening (JobDoes job texts session) (document_opening texts system) out result
Runs (Some (Make n)) texts session out result = DoesMake n out result

-- the bytes of the session: a text of the shelf, or the bytes that the input had
abbrev pub IsSessionText : Option Command → Texts → Option (List ℕ) → List ℕ → Type 0
IsSessionText (Some (On system (Run (Some name)))) texts before session = session ≡ shelf_text texts name
IsSessionText (Some (On system (Run None))) texts before session = Had before session
IsSessionText _ texts before session = Unit {0}

-- the texts that a call fetches from the shelf, if they are known; `make` and words that form no command fetch none
abbrev pub texts_for : Option Command → Option Texts → Option Texts
texts_for (Some (On system job)) told = told
texts_for _ told = Some []

-- the property holds for the texts that a call fetches, if they are known
abbrev pub WithTexts : Option Command → Option Texts → (Texts → Type 0) → Type 0
WithTexts asked told Holds = IfSome (texts_for asked told) Holds

-- the status and the written text are those of a run
pub record HasRun (asked : Option Command) (texts : Texts) (old new : World) (result : Status) : Type 0 where
  pub session : List ℕ
  pub given : IsSessionText asked texts old.rest session
  pub text : List ℕ
  pub run : Runs asked texts session text result
  pub wrote : Wrote old.written new.written text
