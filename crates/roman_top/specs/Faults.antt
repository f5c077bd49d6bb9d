-- Runs that a fault or running out of memory ended: which bytes were written and taken.
use Rattle.std.specs.Prelude.{◌≡◌, ℕ, ◌+◌, ◌-◌, ◌⊎◌, List, ◌++◌, Option, None, Some, IfSome, IsSome}
use Rattle.roman_io.specs.Shelf.{Texts, shelf_text}
use Rattle.roman_io.specs.Sink.{Wrote, WrotePrefix}
use Rattle.roman_io.specs.Source.{Gave, Had, IsAtEnd, GaveAtMost}
use Rattle.roman_model.specs.declared.limits.TheConstants.{MAX_SESSION_BYTES, PIECE_BYTES}
use Rattle.roman_library.specs.Library.{PlainLibrary}
use Rattle.roman_hearing.specs.Hearing.{AreWhole, GaveQuit}
use Rattle.roman_opening.specs.Opening.{Accepted, document_opening}
use Rattle.roman_opening.specs.declared.status.Status.TheVariants as status
use Rattle.roman_opening.specs.declared.status.Status.{Status}
use Rattle.roman_top.specs.Command.{Run, Command, On}
use Rattle.roman_top.specs.Run.{Runs, IsSessionText, WithTexts}
use Rattle.roman_top.specs.Sessions.{GoesOnInSession}
use Rattle.roman_top.specs.World.{World, IsUnwritten}

-- neither a fault nor running out of memory ended the run
abbrev pub IsFree : Status → Type 0
IsFree status.ShelfFault = ⊥
IsFree status.ReadFault = ⊥
IsFree status.WriteFault = ⊥
IsFree status.Memory = ⊥
IsFree _ = Unit {0}

-- ---- the text that was written

-- a session of that document took these bytes and would continue, and the replies to their whole lines were written
pub record HasAnswered (texts : Texts) (system taken : List ℕ) (old new : World) : Type 0 where
  pub library : PlainLibrary
  pub accepted : document_opening texts system ≡ Accepted library
  pub text : List ℕ
  pub replies : GoesOnInSession library taken text
  pub wrote : Wrote old.written new.written text

-- a session on the shelf took a prefix of its text, and the replies to its whole lines were written
pub record HasAnsweredPrefix (texts : Texts) (system name : List ℕ) (old new : World) : Type 0 where
  pub taken : List ℕ
  pub rest : List ℕ
  pub split : shelf_text texts name ≡ taken ++ rest
  pub answered : HasAnswered texts system taken old new

-- after a fault of the shelf only replies of a session on the shelf were written; `make` and words that form no command never end with
-- this fault
abbrev pub AtShelfFault : Option Command → World → World → Type 0
AtShelfFault (Some (On system (Run (Some name)))) old new = IsUnwritten old new ⊎ IfSome old.texts (λ texts. HasAnsweredPrefix texts system name old new)
AtShelfFault (Some (On system job)) old new = IsUnwritten old new
AtShelfFault _ old new = ⊥

-- a session from the input took exactly the bytes that the input gave, and the replies to their whole lines were written
pub record HasAnsweredInput (texts : Texts) (system : List ℕ) (old new : World) : Type 0 where
  pub taken : List ℕ
  pub gave : Gave old.rest new.rest taken
  pub answered : HasAnswered texts system taken old new

-- after a fault of the input the replies of a session from the input were written; other commands never end with this fault
abbrev pub AtReadFault : Option Command → World → World → Type 0
AtReadFault (Some (On system (Run None))) old new = IfSome old.texts (λ texts. HasAnsweredInput texts system old new)
AtReadFault _ old new = ⊥

-- a prefix of the text of a run was written; the input had `rest` left before the run
pub record HasRunPrefix (asked : Option Command) (texts : Texts) (rest : Option (List ℕ)) (old new : World) : Type 0 where
  pub session : List ℕ
  pub given : IsSessionText asked texts rest session
  pub text : List ℕ
  pub ends : Status
  pub run : Runs asked texts session text ends
  pub wrote : WrotePrefix old.written new.written text

-- a prefix of the replies was written to whole lines that the input gave, or to all that it had
pub record HasPrefixOfTaken (texts : Texts) (system : List ℕ) (old new : World) : Type 0 where
  pub taken : List ℕ
  pub more : List ℕ
  pub gave : Gave old.rest new.rest (taken ++ more)
  pub ends : AreWhole taken ⊎ Had old.rest taken
  pub run : HasRunPrefix (Some (On system (Run None))) texts (Some taken) old new

-- a session from the input wrote a prefix of the replies to lines that it took; nothing is stated about other runs
abbrev pub IsOfTaken : Option Command → Texts → World → World → Type 0
IsOfTaken (Some (On system (Run None))) texts old new = HasPrefixOfTaken texts system old new
IsOfTaken _ texts old new = Unit {0}

-- after a fault of the sink a prefix of the text of a run was written
abbrev pub AtWriteFault : Option Command → World → World → Type 0
AtWriteFault asked old new = WithTexts asked old.texts (λ texts. HasRunPrefix asked texts old.rest old new × IsOfTaken asked texts old new)

-- out of memory nothing was written, and the words form a command
abbrev pub AtMemory : Option Command → World → World → Type 0
AtMemory asked old new = IsSome asked × IsUnwritten old new

-- ---- the bytes that were taken from the input

-- the statuses with which a run can end after it took bytes from the input
abbrev pub IsOfSession : Status → Type 0
IsOfSession status.Done = Unit {0}
IsOfSession status.ReadFault = Unit {0}
IsOfSession status.WriteFault = Unit {0}
IsOfSession status.TooLong = Unit {0}
IsOfSession _ = ⊥

-- bytes were taken for a session of an accepted document within its limit, at most 4,096 more than a session may have
pub record HasTakenBytes (system : List ℕ) (old new : World) (result : Status) : Type 0 where
  pub accepted : IfSome old.texts (λ texts. (library : PlainLibrary) × (document_opening texts system ≡ Accepted library))
  pub session : IsOfSession result
  pub few : GaveAtMost (MAX_SESSION_BYTES + PIECE_BYTES) old.rest new.rest

-- only a session without a name takes bytes from the input
abbrev pub TakesInput : Option Command → World → World → Status → Type 0
TakesInput (Some (On system (Run None))) old new result = HasTakenBytes system old new result
TakesInput _ old new result = ⊥

-- a session from the input that ends with Done is at the input's end, or at most 4,095 bytes past its `quit`
abbrev pub EndsInput : Option Command → World → World → Status → Type 0
EndsInput (Some (On system (Run None))) old new status.Done = IsAtEnd new.rest ⊎ GaveQuit (PIECE_BYTES - 1) old.rest new.rest
EndsInput _ old new result = Unit {0}
