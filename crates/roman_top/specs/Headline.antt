-- The headline: the meaning of a session's answers, in terms of the greatest ND-simulation, steps and texts alone.
use Rattle.std.specs.Prelude.{ℕ, List, Option, Some, IfSome}
use Rattle.roman_io.specs.Sink.{Wrote}
use Rattle.roman_library.specs.Library.{PlainLibrary}
use Rattle.roman_session.specs.States.{start_state, IsState}
use Rattle.roman_session.specs.Words.{ReportsGreat}
use Rattle.roman_opening.specs.declared.status.Status.{Status}
use Rattle.roman_top.specs.Command.{Synth, Run, Command, On}
use Rattle.roman_top.specs.Faults.{IsFree}
use Rattle.roman_top.specs.HeadlineJobs.{FulfilsText}
use Rattle.roman_top.specs.HeadlineTargets.{FulfilsTargets}
use Rattle.roman_top.specs.HeadlineTurns.{Means, HasAnsweredLines}
use Rattle.roman_top.specs.World.{World}

-- the report on the library's state was written
pub record HasReported (library : PlainLibrary) (old new : World) : Type 0 where
  pub start : IsState library (start_state library)
  pub text : List ℕ
  pub great : ReportsGreat (start_state library) text
  pub wrote : Wrote old.written new.written text

-- the promise of a session and of a synthesis of an accepted document within its limit, if the shelf's type exposes its texts
abbrev pub FulfilsPromise : Option Command → World → World → Type 0
FulfilsPromise (Some (On system (Run name))) old new =
    IfSome old.texts (λ texts. (library : PlainLibrary) → Means texts system library → HasAnsweredLines (Some (On system (Run name))) library texts old new)
FulfilsPromise (Some (On system Synth)) old new = IfSome old.texts (λ texts. (library : PlainLibrary) → Means texts system library → HasReported library old new)
FulfilsPromise _ old new = Unit {0}

-- unless a fault or running out of memory ended the run, it keeps the promise, the promise target by target, and the promise of each other
-- command; `Runs` states the status of `run` and of `synth`
abbrev pub HasHeadline : Option Command → World → World → Status → Type 0
HasHeadline asked old new result = IsFree result → FulfilsPromise asked old new × FulfilsTargets asked old new × FulfilsText asked old new result
