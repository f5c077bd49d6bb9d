-- How a session is read byte by byte: the invariant between two bytes of its stream.
use Rattle.std.specs.Prelude.{◌≡◌, ℕ, ◌<◌, ◌≤◌, List, [], ◌∷◌, ◌++◌, length, take, Option, Result, Ok, Err, IsTrue, IsFalse}
use Rattle.roman_io.specs.declared.failed.Failed.{Failed}
use Rattle.roman_io.specs.declared.sink.Sink.{Ghosts as SinkView}
use Rattle.roman_model.specs.Lines.{lines, ended_lines}
use Rattle.roman_text.specs.Lines.{unfinished, line_head}
use Rattle.roman_text.specs.Pages.{Gathered}
use Rattle.roman_session.specs.Situations.{Situation, IsSituation}
use Rattle.roman_session.specs.declared.next.Next.{Next}
use Rattle.roman_session.specs.declared.next.Next.TheVariants.{More, Quit}
use Rattle.roman_hearing.specs.Told.{Told}
use Rattle.roman_hearing.specs.Hearing.{has_quit, CausedBy, Cursor, cursor, Tells, TellsPrefix}
use Rattle.roman_hearing.specs.declared.hearing.HearError.{HearError}
use Rattle.roman_hearing.specs.declared.hearing.HearError.TheVariants.{ReadFault, WriteFault, TooLong}

-- the fact holds for each line with the same head, which is therefore read as this one
abbrev pub ForSameHead : List ℕ → (List ℕ → Type 0) → Type 0
ForSameHead line Holds = (whole : List ℕ) → line_head line ≡ line_head whole → Holds whole

-- the sink's count of faults rose if `WriteFault` is returned, and stayed the same otherwise, in words for contracts at a bound `O: Sink`
abbrev pub CausedBySink : {X T : Type 0} → SinkView X → X → X → Result T HearError → Type 0
CausedBySink O old new result = CausedBy WriteFault (O.faults old) (O.faults new) result

-- reader state within a line: the page holds the replies that aren't written yet, and the bytes of the line are held, truncated
-- once they can't parse
pub record ReaderState : Type 0 where
  pub cursor : Cursor
  pub page : List ℕ
  pub held : List ℕ

-- a reader state with these parts
abbrev pub reader_state : Situation → Option (List ℕ) → List ℕ → List ℕ → ReaderState
reader_state situation written page held = record { cursor = cursor situation written; page = page; held = held }

-- a prefix of the replies to these lines was written, and the page holds the rest
pub record TellsOnPage (old : Cursor) (lines : List (List ℕ)) (new : Cursor) (page : List ℕ) : Type 0 where
  pub text : List ℕ
  pub told : Told old.situation lines text new.situation
  pub gathered : Gathered old.written new.written page text

-- the whole lines of these bytes, none of which is `quit`, are answered, and the next line is held, truncated once it can't parse
pub record IsHearing (old : Cursor) (taken : List ℕ) (new : ReaderState) : Type 0 where
  pub quitless : IsFalse (has_quit (ended_lines taken))
  pub tells : TellsOnPage old (ended_lines taken) new.cursor new.page
  pub rest : new.held ≡ line_head (unfinished taken)

-- a first line `quit` ends in the piece after these bytes, and it is answered
pub record StopsAtQuit (old : Cursor) (taken piece : List ℕ) (new : Cursor) (page : List ℕ) : Type 0 where
  pub heard : List ℕ
  pub past : List ℕ
  pub split : piece ≡ heard ++ 10 ∷ past
  pub first : IsFalse (has_quit (ended_lines (taken ++ heard)))
  pub quit : IsTrue (has_quit (ended_lines (taken ++ heard ++ 10 ∷ [])))
  pub tells : TellsOnPage old (ended_lines (taken ++ heard ++ 10 ∷ [])) new page

-- a prefix of the replies to these lines was written, and the session's situation is well formed
pub record FallsShort (old : Cursor) (lines : List (List ℕ)) (new : Cursor) : Type 0 where
  pub tells : TellsPrefix old lines new
  pub known : IsSituation new.situation

-- a prefix of the replies to the whole lines of some first bytes was written, and the session's situation is well formed
pub record FailsIn (old : Cursor) (bytes : List ℕ) (new : Cursor) : Type 0 where
  pub heard : List ℕ
  pub past : List ℕ
  pub split : bytes ≡ heard ++ past
  pub fails : FallsShort old (ended_lines heard) new

-- the bytes were read after the bytes taken before, to their end, to a `quit` or to a fault of the sink
abbrev pub HearsBytes : Cursor → List ℕ → List ℕ → ReaderState → Result Next Failed → Type 0
HearsBytes old taken bytes new (Ok More) = IsHearing old (taken ++ bytes) new
HearsBytes old taken bytes new (Ok Quit) = StopsAtQuit old taken bytes new.cursor new.page
HearsBytes old taken bytes new (Err failed) = FailsIn old (taken ++ bytes) new.cursor

-- the first `room` bytes of a piece were read; if it has more bytes, the session is too long
abbrev pub HearsPiece : ℕ → Cursor → List ℕ → List ℕ → ReaderState → Result Next HearError → Type 0
HearsPiece room old taken piece new (Ok More) = IsHearing old (taken ++ piece) new × (length piece ≤ room)
HearsPiece room old taken piece new (Ok Quit) = StopsAtQuit old taken (take room piece) new.cursor new.page
HearsPiece room old taken piece new (Err ReadFault) = ⊥
HearsPiece room old taken piece new (Err WriteFault) = FailsIn old (taken ++ take room piece) new.cursor
HearsPiece room old taken piece new (Err TooLong) = IsHearing old (taken ++ take room piece) new × (room < length piece)

-- the bytes were read, from one reader state to another, whatever bytes were taken before
abbrev pub HearsBytesAfter : ReaderState → List ℕ → ReaderState → Result Next Failed → Type 0
HearsBytesAfter before bytes after result = (old : Cursor) (taken : List ℕ) → IsHearing old taken before → HearsBytes old taken bytes after result

-- the first `room` bytes of a piece were read, whatever bytes were taken before
abbrev pub HearsPieceAfter : ℕ → ReaderState → List ℕ → ReaderState → Result Next HearError → Type 0
HearsPieceAfter room before piece after result = (old : Cursor) (taken : List ℕ) → IsHearing old taken before → HearsPiece room old taken piece after result

-- the last line, which has no newline, was answered
abbrev pub HearsRest : Cursor → List ℕ → Cursor → Result (Unit {0}) HearError → Type 0
HearsRest old taken new (Ok x) = Tells old (lines taken) new
HearsRest old taken new (Err ReadFault) = ⊥
HearsRest old taken new (Err WriteFault) = FallsShort old (lines taken) new
HearsRest old taken new (Err TooLong) = ⊥

-- the last line was answered, whatever bytes were taken before it
abbrev pub HearsRestAfter : ReaderState → Cursor → Result (Unit {0}) HearError → Type 0
HearsRestAfter before after result = (old : Cursor) (taken : List ℕ) → IsHearing old taken before → HearsRest old taken after result
