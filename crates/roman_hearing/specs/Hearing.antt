-- Sessions that are read from a stream: which lines are answered, and which replies are written.
use Rattle.std.specs.Prelude.{◌≡◌, ◌≢◌, ℕ, ◌≤◌, ◌⊎◌, Bool, ◌||◌, List, [], ◌∷◌, ◌++◌, length, take, nat_le, Option, Result, Err, IsErrOf, IsTrue, IsFalse, if◌then◌else◌}
use Rattle.std.specs.List.{list_any}
use Rattle.roman_io.specs.Faults.{Rose}
use Rattle.roman_io.specs.Sink.{Wrote, WrotePrefix}
use Rattle.roman_io.specs.Source.{Gave, Had}
use Rattle.roman_model.specs.Lines.{lines, ended_lines, text_of_lines}
use Rattle.roman_model.specs.declared.limits.TheConstants.{MAX_SESSION_BYTES}
use Rattle.roman_text.specs.Shapes.{shape_of}
use Rattle.roman_session.specs.Situations.{Situation}
use Rattle.roman_session.specs.Steps.{is_quit}
use Rattle.roman_hearing.specs.Told.{Told}
use Rattle.roman_hearing.specs.declared.hearing.HearError.{HearError}

-- ---- which lines are answered

-- the line is a `quit`, which ends a session
abbrev pub ends_session : List ℕ → Bool
ends_session line = is_quit (shape_of line)

-- one of the lines ends the session
abbrev pub has_quit : List (List ℕ) → Bool
has_quit lines = list_any ends_session lines

-- the first 16,777,216 bytes of a session, or all of a shorter one
abbrev pub prefix_of : List ℕ → List ℕ
prefix_of session = take MAX_SESSION_BYTES session

-- the session isn't too long: it has at most 16,777,216 bytes, or a line `quit` ends within that many bytes
abbrev pub is_heard_out : List ℕ → Bool
is_heard_out session = nat_le (length session) MAX_SESSION_BYTES || has_quit (ended_lines (prefix_of session))

-- the answered lines, up to the first `quit`: all lines, or those that end within the limit if the session is too long
abbrev pub heard_lines : List ℕ → List (List ℕ)
heard_lines session = if is_heard_out session then lines session else ended_lines (prefix_of session)

-- the source gave a first line `quit`, and at most `most` bytes after its newline
pub record GaveQuit (most : ℕ) (before now : Option (List ℕ)) : Type 0 where
  pub heard : List ℕ
  pub past : List ℕ
  pub gave : Gave before now (heard ++ 10 ∷ past)
  pub first : IsFalse (has_quit (ended_lines heard))
  pub quit : IsTrue (has_quit (ended_lines (heard ++ 10 ∷ [])))
  pub few : length past ≤ most

-- ---- a session, its source and its sink

-- the situation of a session, and the written bytes, if the sink's type exposes them
pub record Cursor : Type 0 where
  pub situation : Situation
  pub written : Option (List ℕ)

-- a cursor with these parts
abbrev pub cursor : Situation → Option (List ℕ) → Cursor
cursor situation written = record { situation = situation; written = written }

-- the situation of a session, the written bytes, and the rest of its source, if their types expose these
pub record StreamState : Type 0 where
  pub cursor : Cursor
  pub rest : Option (List ℕ)

-- a stream state with these parts
abbrev pub stream_state : Situation → Option (List ℕ) → Option (List ℕ) → StreamState
stream_state situation rest written = record { cursor = cursor situation written; rest = rest }

-- the replies to these lines were written, and they lead to the new situation
pub record Tells (old : Cursor) (lines : List (List ℕ)) (new : Cursor) : Type 0 where
  pub text : List ℕ
  pub told : Told old.situation lines text new.situation
  pub wrote : Wrote old.written new.written text

-- a prefix of the replies to these lines was written, and the replies lead to the new situation
pub record TellsPrefix (old : Cursor) (lines : List (List ℕ)) (new : Cursor) : Type 0 where
  pub text : List ℕ
  pub told : Told old.situation lines text new.situation
  pub wrote : WrotePrefix old.written new.written text

-- ---- how a session ends

-- the session was read to its end or to `quit`, and all replies were written
pub record IsHeardOut (old : StreamState) (new : Cursor) : Type 0 where
  pub session : List ℕ
  pub had : Had old.rest session
  pub out : IsTrue (is_heard_out session)
  pub tells : Tells old.cursor (lines session) new

-- the session is too long, and the replies to the lines that end within the limit were written
pub record IsCutOff (old : StreamState) (new : Cursor) : Type 0 where
  pub session : List ℕ
  pub had : Had old.rest session
  pub long : IsFalse (is_heard_out session)
  pub tells : Tells old.cursor (ended_lines (prefix_of session)) new

-- the session would continue: the source gave bytes within the limit, and their whole lines, without a `quit`, are answered
pub record GoesOn (old new : StreamState) : Type 0 where
  pub taken : List ℕ
  pub gave : Gave old.rest new.rest taken
  pub few : length taken ≤ MAX_SESSION_BYTES
  pub quitless : IsFalse (has_quit (ended_lines taken))
  pub tells : Tells old.cursor (ended_lines taken) new.cursor

-- the bytes are whole lines: each line has its newline
abbrev pub AreWhole : List ℕ → Type 0
AreWhole bytes = bytes ≡ text_of_lines (ended_lines bytes)

-- a prefix of the replies to the lines of the first bytes that the source gave was written; these bytes are whole lines, or
-- all that the source had
pub record StopsShort (old new : StreamState) : Type 0 where
  pub heard : List ℕ
  pub past : List ℕ
  pub gave : Gave old.rest new.rest (heard ++ past)
  pub few : length heard ≤ MAX_SESSION_BYTES
  pub ends : AreWhole heard ⊎ Had old.rest heard
  pub tells : TellsPrefix old.cursor (lines heard) new.cursor

-- a prefix of possible replies to the whole session was written
pub record TellsPrefixOfAll (old : StreamState) (now : Option (List ℕ)) : Type 0 where
  pub session : List ℕ
  pub had : Had old.rest session
  pub last : Situation
  pub tells : TellsPrefix old.cursor (heard_lines session) (cursor last now)

-- a count of faults rose if this error is returned, and stayed the same otherwise
pub record CausedBy {T : Type 0} (fault : HearError) (old new : ℕ) (result : Result T HearError) : Type 0 where
  pub rose : IsErrOf result fault → Rose old new
  pub stayed : result ≢ Err fault → new ≡ old
