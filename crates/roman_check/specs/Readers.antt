-- The part of a text that was read.
use Rattle.std.specs.Prelude.{◌≡◌, ℕ, ◌+◌, ◌≤◌, List, [], ◌∷◌, ◌++◌, length, take, Option, None, Some}
use Rattle.roman_model.specs.Lines.{lines, text_of_lines, IsLine, AreLines}
use Rattle.roman_model.specs.Arena.{Arena}
use Rattle.roman_model.specs.Certificate.{cert_verdict, line_fault, IsClean}
use Rattle.roman_model.specs.declared.limits.TheConstants.{MAX_CERTIFICATE_BYTES}
use Rattle.roman_rules.specs.declared.rules.Rules.{Ghosts as RulesView}
use Rattle.roman_check.specs.declared.verdict.Verdict.{Verdict}
use Rattle.roman_check.specs.declared.verdict.Verdict.TheVariants.{Rejected}
use Rattle.roman_check.specs.declared.audit.Due.TheVariants.{Body}
use Rattle.roman_check.specs.declared.verdict.Why.{Why}
use Rattle.roman_check.specs.declared.reader.Reader.{Reader}
use Rattle.roman_check.specs.Verdicts.{fault_of, verdict_of}
use Rattle.roman_check.specs.Lines.{Holds}
use Rattle.roman_check.specs.Audits.{Fits, HasRead, IsInRows, Judges}

-- the lines of the text were read, and none of them is at fault
pub record HasLines (A : Arena ℕ) (text : List (List ℕ)) (reader : Reader) : Type 0 where
  pub clean : IsClean A text (length text)
  pub read : HasRead A text reader.audit
  pub counted : reader.lines ≡ length text

-- the bytes are these lines with their newlines, and these bytes after them
pub record SplitsAfter (bytes : List ℕ) (text : List (List ℕ)) (more : List ℕ) : Type 0 where
  pub is : bytes ≡ text_of_lines text ++ more
  pub whole : AreLines text

-- the bytes taken were read: whole lines without a fault, and the first bytes of the next line
pub record IsReading (A : Arena ℕ) (taken : List ℕ) (reader : Reader) : Type 0 where
  pub text : List (List ℕ)
  pub partial : List ℕ
  pub split : SplitsAfter taken text partial
  pub unended : IsLine partial
  pub has : HasLines A text reader
  pub held : Holds reader.line partial

-- an entry or the last line is due, and no byte of it was read
pub record IsBetween (reader : Reader) : Type 0 where
  pub due : reader.audit.due ≡ Body
  pub line : Holds reader.line []

-- the text has a whole line at fault after this number of clean lines
pub record IsAtFault (A : Arena ℕ) (bytes : List ℕ) (clean_lines : ℕ) (why : Why) : Type 0 where
  pub text : List (List ℕ)
  pub line : List ℕ
  pub more : List ℕ
  pub split : SplitsAfter bytes (text ++ line ∷ []) more
  pub clean : IsClean A text (length text)
  pub fault : line_fault A text (Some line) ≡ Some (fault_of why)
  pub counted : clean_lines ≡ length text

-- the bytes were read, or a line of them is at fault and those before it are counted
abbrev pub HasReached : Arena ℕ → List ℕ → Reader → Option Why → Type 0
HasReached A bytes reader None = IsReading A bytes reader
HasReached A bytes reader (Some why) = IsAtFault A bytes reader.lines why

-- if the piece was read to the first place, it is read to the second, or the line that ends there is at fault; the table keeps its rows
pub record ReadsPart (A : Arena ℕ) (lanes : ℕ) (old new : Reader) (piece : List ℕ) (from to : ℕ) (fault : Option Why) : Type 0 where
  pub low : from ≤ to
  pub high : to ≤ length piece
  pub lines : new.lines + from ≤ old.lines + to
  pub shaped : IsInRows lanes (length A.nodes) new.audit.left
  pub reads : (taken : List ℕ) → IsReading A (taken ++ take from piece) old → HasReached A (taken ++ take to piece) new fault

-- the same, in a system
abbrev pub ReadsOn : {J R : Type 0} → RulesView J R → J → Reader → Reader → List ℕ → ℕ → ℕ → Option Why → Type 0
ReadsOn J joint old new piece from to fault = ReadsPart (J.arena joint) (J.lanes joint) old new piece from to fault

-- the table fits the system, and the lines of the piece from this place on can be counted within the limit
pub record CanReadFrom {J R : Type 0} (V : RulesView J R) (joint : J) (reader : Reader) (piece : List ℕ) (from : ℕ) : Type 0 where
  pub shaped : Fits V joint reader.audit
  pub place : from ≤ length piece
  pub room : reader.lines + length piece ≤ MAX_CERTIFICATE_BYTES + from

-- the whole piece is read, or a line that ends in it is at fault
pub record ReadsPiece (A : Arena ℕ) (lanes : ℕ) (old new : Reader) (piece : List ℕ) (fault : Option Why) : Type 0 where
  pub to : ℕ
  pub read : ReadsPart A lanes old new piece 0 to fault
  pub whole : fault ≡ None → to ≡ length piece

-- 1 if there is no fault, and 0 otherwise
abbrev pub one_if_clean : Option Why → ℕ
one_if_clean None = 1
one_if_clean (Some why) = 0

-- the table fits the system, and a line can be counted within the limit
abbrev pub CanEndLine : {J R : Type 0} → RulesView J R → J → Reader → Type 0
CanEndLine J joint reader = Fits J joint reader.audit × (reader.lines ≤ MAX_CERTIFICATE_BYTES)

-- the line that consists of the buffered bytes and the last bytes is judged
abbrev pub JudgesHeld : Arena ℕ → Reader → Reader → List ℕ → Option Why → Type 0
JudgesHeld A old new last fault = (bytes : List ℕ) → Holds old.line bytes → Judges A old.audit new.audit (bytes ++ last) fault

-- the line that consists of the buffered bytes and the last bytes is judged, and the next one begins if it has no fault
pub record EndsLine (A : Arena ℕ) (lanes : ℕ) (old new : Reader) (last : List ℕ) (fault : Option Why) : Type 0 where
  pub judged : JudgesHeld A old new last fault
  pub shaped : IsInRows lanes (length A.nodes) new.audit.left
  pub lines : new.lines ≡ old.lines + one_if_clean fault
  pub cleared : fault ≡ None → Holds new.line []

-- the verdict is that of each text within the limit that is known to have been read
abbrev pub Decides : Arena ℕ → ℕ → (List ℕ → Type 0) → Verdict → Type 0
Decides A start IsRead verdict = (bytes : List ℕ) → IsRead bytes → length bytes ≤ MAX_CERTIFICATE_BYTES → cert_verdict A start bytes ≡ verdict_of verdict

-- the verdict is that of each text within the limit of which the bytes were read
abbrev pub DecidesRead : Arena ℕ → ℕ → Reader → Verdict → Type 0
DecidesRead A start reader verdict = Decides A start (λ bytes. IsReading A bytes reader) verdict

-- all lines of the ended text were read, or its last line is at fault
abbrev pub Closes : Arena ℕ → Reader → Reader → Option Why → Type 0
Closes A old new None = (bytes : List ℕ) → IsReading A bytes old → HasLines A (lines bytes) new
Closes A old new (Some why) = (start : ℕ) → DecidesRead A start old (Rejected (new.lines + 1) why)
