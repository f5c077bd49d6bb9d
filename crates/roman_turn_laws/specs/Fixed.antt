-- The results of a turn that aren't determined: the split of a count of lost pairs, and the entries of an explanation. All else is fixed.
use Rattle.std.specs.Prelude.{◌≡◌, ◌⊎◌, ℕ, ◌+◌, List, Result, Ok}
use Rattle.std.specs.List.{AllZip}
use Rattle.roman_io.specs.Shelf.{Texts}
use Rattle.roman_text.specs.Shapes.{LineShape}
use Rattle.roman_text.specs.declared.errors.LineError.{LineError}
use Rattle.roman_text.specs.declared.replies.Reply.TheVariants as reply
use Rattle.roman_library.specs.Documents.{library_of}
use Rattle.roman_library.specs.Library.{PlainLibrary}
use Rattle.roman_session.specs.declared.phase.Phase.TheVariants.{Idle}
use Rattle.roman_session.specs.Afresh.{afresh}
use Rattle.roman_session.specs.States.{State, start_state, IsState}
use Rattle.roman_session.specs.Turns.{TurnsInto}
use Rattle.roman_session.specs.Words.{Replies, Refutes}
use Rattle.roman_top.specs.HeadlineTurns.{Turn, AreTurns}
use Rattle.roman_turn_laws.specs.Alike.{DifferInStarts}

-- both texts are replies `kept K added N`, with the same sum
pub record CountTheSame (text other : List ℕ) : Type 0 where
  pub kept : ℕ
  pub added : ℕ
  pub kept_there : ℕ
  pub added_there : ℕ
  pub one : Replies (reply.Kept kept added) text
  pub there : Replies (reply.Kept kept_there added_there) other
  pub same : kept + added ≡ kept_there + added_there

-- the texts are alike: they are equal, or count the same number of lost pairs, or both explain why the current pair isn't related
abbrev pub SayAlike : State → List ℕ → List ℕ → Type 0
SayAlike s text other = (text ≡ other) ⊎ (CountTheSame text other ⊎ (Refutes s text × Refutes s other))

-- in each well-formed state of an accepted document, two turns of one event lead to one state, with alike texts
abbrev pub TurnsAreFixed : Type 0
TurnsAreFixed =
    (texts : Texts) (document : List ℕ) (library : PlainLibrary) (s new also : State) (event : Result LineShape LineError) (text other : List ℕ) → library_of texts document ≡ Ok library → IsState library s →
    TurnsInto s event text new → TurnsInto s event other also → (new ≡ also) × SayAlike s text other

-- the same line from one state to one state, with alike texts
pub record IsFixedTurn (x y : Turn) : Type 0 where
  pub before : x.before ≡ y.before
  pub line : x.line ≡ y.line
  pub texts : SayAlike x.before x.text y.text
  pub after : x.after ≡ y.after

-- any two lists of turns of the same lines from one state of an accepted document go through the same states, with alike texts turn by turn
abbrev pub SessionsAreFixed : Type 0
SessionsAreFixed =
    (texts : Texts) (document : List ℕ) (library : PlainLibrary) (s : State) (lines : List (List ℕ)) (xs ys : List Turn) → library_of texts document ≡ Ok library →
    AreTurns library s lines xs → AreTurns library s lines ys → AllZip IsFixedTurn xs ys

-- the same line between alike states, with alike texts
pub record IsLikeTurn (x y : Turn) : Type 0 where
  pub before : DifferInStarts x.before y.before
  pub line : x.line ≡ y.line
  pub texts : SayAlike x.before x.text y.text
  pub after : DifferInStarts x.after y.after

-- a session of an accepted document that continues, and any session of the same lines in the library that begins in its idle state, have alike texts turn by turn
abbrev pub ResumedSayAlike : Type 0
ResumedSayAlike =
    (texts : Texts) (document : List ℕ) (library : PlainLibrary) (s : State) (lines : List (List ℕ)) (xs ys : List Turn) → library_of texts document ≡ Ok library → IsState library s → s.phase ≡ Idle →
    AreTurns library s lines xs → AreTurns (afresh s) (start_state (afresh s)) lines ys → AllZip IsLikeTurn xs ys
