-- A session that is interrupted between two requests and continues in a library that begins in its present states.
use Rattle.std.specs.Prelude.{◌≡◌, ℕ, List, map, Result, Ok, Some, slice_get}
use Rattle.std.specs.List.{AllZip}
use Rattle.roman_text.specs.Shapes.{LineShape, request, delegate}
use Rattle.roman_text.specs.Replies.{reply_text}
use Rattle.roman_text.specs.declared.replies.Reply.TheVariants as reply
use Rattle.roman_joint.specs.Names.{seat_name}
use Rattle.roman_text.specs.declared.errors.LineError.{LineError}
use Rattle.roman_library.specs.Library.{PlainLibrary}
use Rattle.roman_session.specs.declared.phase.Phase.TheVariants.{Idle, Offered, Delegated}
use Rattle.roman_session.specs.Afresh.{afresh}
use Rattle.roman_session.specs.States.{State, start_state, IsState}
use Rattle.roman_session.specs.Turns.{TurnsInto}
use Rattle.roman_session.specs.Words.{OffersServing}
use Rattle.roman_top.specs.HeadlineTurns.{Turn, AreTurns}
use Rattle.roman_turn_laws.specs.Alike.{DifferInStarts}

-- no turn depends on the starting states of its parts: from alike states an event can have the same texts, and leads to alike states
abbrev pub TurnsAreAlike : Type 0
TurnsAreAlike =
    (one other new : State) (event : Result LineShape LineError) (text : List ℕ) → DifferInStarts one other → TurnsInto one event text new →
    (also : State) × DifferInStarts new also × TurnsInto other event text also

-- the same line, read as the same event, with the same text, between alike states
pub record IsSameTurn (x y : Turn) : Type 0 where
  pub before : DifferInStarts x.before y.before
  pub line : x.line ≡ y.line
  pub event : x.event ≡ y.event
  pub text : x.text ≡ y.text
  pub after : DifferInStarts x.after y.after

-- the lines that have turns from the state have the same turns from the library that begins in it, and conversely
pub record GoesOnAfresh (library : PlainLibrary) (s : State) (lines : List (List ℕ)) : Type 0 where
  pub there : (xs : List Turn) → AreTurns library s lines xs → (ys : List Turn) × AreTurns (afresh s) (start_state (afresh s)) lines ys × AllZip IsSameTurn xs ys
  pub back : (ys : List Turn) → AreTurns (afresh s) (start_state (afresh s)) lines ys → (xs : List Turn) × AreTurns library s lines xs × AllZip IsSameTurn xs ys

-- a session that is interrupted in an idle state can continue in the library that begins in it
abbrev pub SessionsResume : Type 0
SessionsResume = (library : PlainLibrary) (s : State) (lines : List (List ℕ)) → IsState library s → s.phase ≡ Idle → GoesOnAfresh library s lines

-- the open request of a state can be resumed from the same state without it, by requesting it and then delegating it to its delegate
pub record TakesUp (s : State) : Type 0 where
  pub requested : (a : ℕ) (action text : List ℕ) → s.phase ≡ Offered a → slice_get s.parts.environment.actions a ≡ Some action → OffersServing s a text →
      TurnsInto (record s { phase = Idle }) (Ok (request action)) text s
  pub delegated : (a k : ℕ) (action service text : List ℕ) → s.phase ≡ Delegated a k → slice_get s.parts.environment.actions a ≡ Some action → slice_get (map seat_name s.parts.seats) k ≡ Some service →
      OffersServing s a text →
      TurnsInto (record s { phase = Idle }) (Ok (request action)) text (record s { phase = Offered a })
      × TurnsInto (record s { phase = Offered a }) (Ok (delegate service)) (reply_text (reply.Using service)) s

-- an open request can be resumed in the library that begins in the present states: that library's state differs from the present one, without the request, only in starting states
abbrev pub OpenIsTakenUp : Type 0
OpenIsTakenUp = (library : PlainLibrary) (s : State) → IsState library s → TakesUp s × DifferInStarts (start_state (afresh s)) (record s { phase = Idle })
