-- How a session of a library begins, and its replies from there on.
use Rattle.std.specs.Prelude.{◌≡◌, ℕ, ◌≤◌, List, length, IsFalse}
use Rattle.roman_io.specs.Shelf.{Texts}
use Rattle.roman_model.specs.Lines.{ended_lines}
use Rattle.roman_model.specs.declared.limits.TheConstants.{MAX_SESSION_BYTES}
use Rattle.roman_library.specs.Library.{PlainLibrary}
use Rattle.roman_session.specs.Situations.{Situation}
use Rattle.roman_session.specs.Starts.{IsStart}
use Rattle.roman_hearing.specs.Known.{IsKnownSituation}
use Rattle.roman_hearing.specs.Told.{Told}
use Rattle.roman_hearing.specs.Hearing.{has_quit}
use Rattle.roman_opening.specs.Opening.{Accepted, document_opening}

-- a session of an accepted document within its limit starts in a well-formed situation
abbrev pub StartsAreKnown : Type 0
StartsAreKnown = (texts : Texts) (system : List ℕ) (library : PlainLibrary) (s : Situation) → document_opening texts system ≡ Accepted library → IsStart library s → IsKnownSituation s

-- the text has the replies to the lines in a session of that library, from one of its starting situations
pub record ToldFromStart (library : PlainLibrary) (lines : List (List ℕ)) (text : List ℕ) : Type 0 where
  pub start : Situation
  pub now : Situation
  pub begins : IsStart library start
  pub told : Told start lines text now

-- a session that continues: the bytes taken so far are within the limit, none of their whole lines ends it, and the text has
-- the replies to these lines
pub record GoesOnInSession (library : PlainLibrary) (taken text : List ℕ) : Type 0 where
  pub few : length taken ≤ MAX_SESSION_BYTES
  pub quitless : IsFalse (has_quit (ended_lines taken))
  pub tells : ToldFromStart library (ended_lines taken) text
