-- The effect of opening a document on a handle.
use Rattle.core.specs.declared.ledger.Blank.{Blank}
use Rattle.core.specs.declared.ledger.Ledger.{Ghosts as LedgerView}
use Rattle.std.specs.Prelude.{◌≡◌, ◌≢◌, ℕ, ◌<◌, List, [], ◌∷◌, Option, None, Some}
use Rattle.roman_io.specs.Shelf.{Texts}
use Rattle.roman_model.specs.Lists.{IsIn}
use Rattle.roman_library.specs.Library.{PlainLibrary}
use Rattle.roman_library.specs.declared.refusal.Refusal.{Refusal}
use Rattle.roman_session.specs.Situations.{Situation}
use Rattle.roman_session.specs.Starts.{IsStart}
use Rattle.roman_opening.specs.Opening.{Accepted, Past, Refused, document_opening, limit_line}
use Rattle.roman_opening.specs.RefusalLine.{refusal_line}
use Rattle.roman_opening.specs.declared.status.Status.{Status}
use Rattle.roman_opening.specs.declared.status.Status.TheVariants as status
use Rattle.roman_c.specs.Contents.{reply_in, session_in, texts_in}
use Rattle.roman_c.specs.declared.content.Content.{Content}
use Rattle.roman_c.specs.declared.opening.Begun.{Begun}

-- the document of that name is accepted within its limit, and a session of it is open in a starting situation
pub record OpensStart (texts : Texts) (name : List ℕ) (session : Option Situation) : Type 0 where
  pub library : PlainLibrary
  pub start : Situation
  pub accepted : document_opening texts name ≡ Accepted library
  pub starts : IsStart library start
  pub opened : session ≡ Some start

-- the document of that name is refused, and the reply is the line of the refusal
pub record TellsRefusal (texts : Texts) (name reply : List ℕ) : Type 0 where
  pub refusal : Refusal
  pub refused : document_opening texts name ≡ Refused refusal
  pub line : reply ≡ refusal_line refusal

-- the system of the document of that name exceeds its limit, and the reply is the line of the limit
pub record TellsLimit (texts : Texts) (name reply : List ℕ) : Type 0 where
  pub library : PlainLibrary
  pub past : document_opening texts name ≡ Past library
  pub line : reply ≡ limit_line library.limit

-- the numbers that opening a document returns
abbrev pub IsOpeningStatus : ℕ → Type 0
IsOpeningStatus n = IsIn n (0 ∷ 3 ∷ 4 ∷ 5 ∷ 9 ∷ 10 ∷ [])

-- what opening the document of that name leaves, with this number: a session and a reply
pub record HasOpened (texts : Texts) (name : List ℕ) (session : Option Situation) (reply : List ℕ) (number : ℕ) : Type 0 where
  pub among : IsOpeningStatus number
  pub ok : number ≡ 0 → OpensStart texts name session
  pub none : number ≢ 0 → session ≡ None
  pub refused : number ≡ 3 → TellsRefusal texts name reply
  pub limit : number ≡ 4 → TellsLimit texts name reply

-- the document of that name was opened, with the session and the reply of this result
abbrev pub HasBegun : Texts → List ℕ → Begun → Type 0
HasBegun texts name begun = HasOpened texts name begun.talk.session begun.talk.reply.bytes.items begun.status

-- the document of that name was opened, with the content of handles before and after an export
abbrev pub HasOpenedIn : Option Content → List ℕ → Option Content → ℕ → Type 0
HasOpenedIn shelf name session number = HasOpened (texts_in shelf) name (session_in session) (reply_in session) number

-- a counter of steps can begin on the blank: it has the name and the parts of the ledger, at least one
pub record CanCount {L : Type 0} (ledger : LedgerView L) (blank : Blank) : Type 0 where
  pub name : blank.name ≡ ledger.name
  pub parts : blank.parts ≡ ledger.parts
  pub some : 0 < ledger.parts

-- the number of a status without a session; it is that of out of memory if a line couldn't be written
abbrev pub opening_number : Status → ℕ
opening_number status.Refused = 3
opening_number status.Limit = 4
opening_number status.ShelfFault = 5
opening_number _ = 9
