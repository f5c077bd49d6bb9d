-- The shape of a session line: the event that its words spell.
use Rattle.std.specs.Prelude.{◌≡◌, ℕ, Bool, true, false, ◌==◌, ◌||◌, ◌&&◌, not, List, [], ◌∷◌, length, nat_eq, nat_lt, filter, codes, Option, None, Some, Result, Ok, Err, if◌then◌else◌}
use Rattle.std.specs.Borrow.{Bor}
use Rattle.std.specs.List.{slice_split, starts_with}
use Rattle.std.specs.Str.{bytes_eq}
use Rattle.std.specs.Str.Lines.{strip_carriage_return}
use Rattle.roman_text.specs.declared.errors.LineError.{LineError}
use Rattle.roman_text.specs.declared.errors.LineError.TheVariants.{Form, TooLong}
use Rattle.roman_text.specs.declared.events.Event.{Event}
use Rattle.roman_text.specs.declared.events.Event.TheVariants as event

-- an event, with its words as bytes
pub data LineShape : Type 0 where
  nothing : LineShape
  request : (action : List ℕ) → LineShape
  delegate : (service : List ℕ) → LineShape
  observe : (state env : List ℕ) → LineShape
  abort : LineShape
  freeze : (service : List ℕ) → LineShape
  thaw : (service : List ℕ) → LineShape
  die : (service : List ℕ) → LineShape
  join : (service behaviour state : List ℕ) (loose : Bool) → LineShape
  jump : (service state : List ℕ) → LineShape
  jump_env : (env : List ℕ) → LineShape
  report : LineShape
  explain : LineShape
  quit : LineShape

-- a space or a tab
abbrev pub is_blank : ℕ → Bool
is_blank byte = byte == 32 || byte == 9

-- a byte that is neither a space nor a tab
abbrev pub is_word_byte : ℕ → Bool
is_word_byte byte = not (is_blank byte)

-- the list isn't empty
abbrev pub has_bytes : List ℕ → Bool
has_bytes [] = false
has_bytes (byte ∷ bytes) = true

-- words, each a list of bytes
abbrev pub Words : Type 0
Words = List (List ℕ)

-- the words of a line: the parts between its blanks
unfoldable pub words_of : List ℕ → Words
words_of line = filter has_bytes (slice_split is_blank line)

-- a word that makes the line a comment
abbrev pub is_comment : List ℕ → Bool
is_comment word = starts_with nat_eq word (codes "#")

-- the event of a line of one word
abbrev pub alone : List ℕ → Result LineShape LineError
alone word =
    if bytes_eq word (codes "abort") then Ok abort
    else if bytes_eq word (codes "report") then Ok report
    else if bytes_eq word (codes "explain") then Ok explain
    else if bytes_eq word (codes "quit") then Ok quit
    else Err Form

-- the event of a line of two words
abbrev pub with_one : List ℕ → List ℕ → Result LineShape LineError
with_one word a =
    if bytes_eq word (codes "do") then Ok (request a)
    else if bytes_eq word (codes "use") then Ok (delegate a)
    else if bytes_eq word (codes "freeze") then Ok (freeze a)
    else if bytes_eq word (codes "thaw") then Ok (thaw a)
    else if bytes_eq word (codes "die") then Ok (die a)
    else if bytes_eq word (codes "jumpenv") then Ok (jump_env a)
    else Err Form

-- the event of a line of three words
abbrev pub with_two : List ℕ → List ℕ → List ℕ → Result LineShape LineError
with_two word a b =
    if bytes_eq word (codes "saw") then Ok (observe a b)
    else if bytes_eq word (codes "jump") then Ok (jump a b)
    else Err Form

-- the event of a line of four words
abbrev pub with_three : List ℕ → List ℕ → List ℕ → List ℕ → Result LineShape LineError
with_three word a b c = if bytes_eq word (codes "join") then Ok (join a b c false) else Err Form

-- the event of a line of five words
abbrev pub with_four : List ℕ → List ℕ → List ℕ → List ℕ → List ℕ → Result LineShape LineError
with_four word a b c d =
    if bytes_eq word (codes "join") && bytes_eq d (codes "loose") then Ok (join a b c true) else Err Form

-- the event of a line, by its first word and the other words
abbrev pub by_words : List ℕ → Words → Result LineShape LineError
by_words word [] = alone word
by_words word (a ∷ []) = with_one word a
by_words word (a ∷ b ∷ []) = with_two word a b
by_words word (a ∷ b ∷ c ∷ []) = with_three word a b c
by_words word (a ∷ b ∷ c ∷ d ∷ []) = with_four word a b c d
by_words word (a ∷ b ∷ c ∷ d ∷ e ∷ more) = Err Form

-- the event of a line, by all its words: a line without words and a comment get no reply
abbrev pub shape_of_words : Words → Result LineShape LineError
shape_of_words [] = Ok nothing
shape_of_words (word ∷ more) = if is_comment word then Ok nothing else by_words word more

-- the event of a line of at most 256 bytes; one byte 13 at its end is ignored
unfoldable pub shape_of : List ℕ → Result LineShape LineError
shape_of line =
    if nat_lt 256 (length line) then Err TooLong else shape_of_words (words_of (strip_carriage_return line))

-- the words of an event's line
abbrev pub spelling : LineShape → Words
spelling nothing = []
spelling (request action) = codes "do" ∷ action ∷ []
spelling (delegate service) = codes "use" ∷ service ∷ []
spelling (observe state env) = codes "saw" ∷ state ∷ env ∷ []
spelling abort = codes "abort" ∷ []
spelling (freeze service) = codes "freeze" ∷ service ∷ []
spelling (thaw service) = codes "thaw" ∷ service ∷ []
spelling (die service) = codes "die" ∷ service ∷ []
spelling (join service behaviour state false) = codes "join" ∷ service ∷ behaviour ∷ state ∷ []
spelling (join service behaviour state true) = codes "join" ∷ service ∷ behaviour ∷ state ∷ codes "loose" ∷ []
spelling (jump service state) = codes "jump" ∷ service ∷ state ∷ []
spelling (jump_env env) = codes "jumpenv" ∷ env ∷ []
spelling report = codes "report" ∷ []
spelling explain = codes "explain" ∷ []
spelling quit = codes "quit" ∷ []

-- the shape of a parsed event
abbrev pub shape_of_event : Event → LineShape
shape_of_event event.Nothing = nothing
shape_of_event (event.Ask action) = request action.now
shape_of_event (event.Hand service) = delegate service.now
shape_of_event (event.Saw state env) = observe state.now env.now
shape_of_event event.Abort = abort
shape_of_event (event.Freeze service) = freeze service.now
shape_of_event (event.Thaw service) = thaw service.now
shape_of_event (event.Die service) = die service.now
shape_of_event (event.Join service behaviour state loose) = join service.now behaviour.now state.now loose
shape_of_event (event.Jump service state) = jump service.now state.now
shape_of_event (event.JumpEnv env) = jump_env env.now
shape_of_event event.Report = report
shape_of_event event.Explain = explain
shape_of_event event.Quit = quit

-- the parsed event has this shape, or the error is the same
abbrev pub Shapes : Result LineShape LineError → Result Event LineError → Type 0
Shapes shape (Ok e) = shape ≡ Ok (shape_of_event e)
Shapes shape (Err why) = shape ≡ Err why

-- the first word of a line and the bytes after it, or none if the line has no word
abbrev pub IsFirstWord : List ℕ → Option (Bor (List ℕ) × Bor (List ℕ)) → Type 0
IsFirstWord line None = words_of line ≡ []
IsFirstWord line (Some first) = words_of line ≡ first.0.now ∷ words_of first.1.now

-- the number of an error
abbrev pub line_error_number : LineError → ℕ
line_error_number Form = 1
line_error_number TooLong = 2
