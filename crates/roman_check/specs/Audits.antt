-- The state of a check after the lines read so far.
use Rattle.std.specs.Prelude.{◌≡◌, ℕ, ◌+◌, ◌*◌, ◌<◌, Bool, not, List, [], ◌∷◌, ◌++◌, drop, length, Option, None, Some, if◌then◌else◌}
use Rattle.std.specs.List.{list_any}
use Rattle.std.specs.Option.{option_map}
use Rattle.roman_model.specs.SystemArena.{same_numbers}
use Rattle.roman_model.specs.Arena.{Arena, Entry, is_listed, is_justified}
use Rattle.roman_model.specs.Certificate.{end_line, entries_on, entry_of, line_fault}
use Rattle.roman_model.specs.declared.reason.Reason.{Reason}
use Rattle.roman_lanes.specs.Rows.{AreRows}
use Rattle.roman_rules.specs.declared.probe.RowProbe.{RowProbe}
use Rattle.roman_rules.specs.Probes.{HoldsWhereKnown, IsReasonOf}
use Rattle.roman_rules.specs.declared.rules.Rules.{Ghosts as RulesView}
use Rattle.roman_check.specs.declared.audit.Audit.{Audit}
use Rattle.roman_check.specs.declared.audit.Due.{Due}
use Rattle.roman_check.specs.declared.audit.Front.{Front}
use Rattle.roman_check.specs.declared.audit.Due.TheVariants.{Head, Count, Body, Nothing}
use Rattle.roman_check.specs.declared.table.Remaining.{Remaining}
use Rattle.roman_check.specs.declared.verdict.Why.{Why}
use Rattle.roman_check.specs.Readings.{entry_with}
use Rattle.roman_check.specs.Verdicts.{fault_of}
use Rattle.roman_check.specs.Remain.{Remain}

-- the line that is due after the lines of the text
abbrev pub due_after : List (List ℕ) → Due
due_after [] = Head
due_after (head ∷ []) = Count
due_after (head ∷ size ∷ body) = if list_any (same_numbers end_line) body then Nothing else Body

-- the table has one bit for each of the pairs, in rows of this number of lanes
pub record IsInRows (lanes pairs : ℕ) (left : Remaining) : Type 0 where
  pub in_rows : left.lanes ≡ lanes
  pub room : length left.words.items * lanes ≡ pairs

-- the audit's table has one bit for each pair of the system
abbrev pub Fits : {J R : Type 0} → RulesView J R → J → Audit → Type 0
Fits J joint audit = IsInRows (J.lanes joint) (length (J.arena joint).nodes) audit.left

-- the table fits the system, and an entry or the last line is due
abbrev pub IsInBody : {J R : Type 0} → RulesView J R → J → Audit → Type 0
IsInBody J joint audit = Fits J joint audit × (audit.due ≡ Body)

-- the pair and the reason are of the system
abbrev pub IsEntryIn : Arena ℕ → ℕ × Reason → Type 0
IsEntryIn A x = (x.0 < length A.nodes) × IsReasonOf A x.1

-- the front is the row that was probed last, and is a row of the table
pub record IsFront (audit : Audit) (front : Front) : Type 0 where
  pub inside : front.row < length audit.left.words.items
  pub row : front.row ≡ audit.probe.row
  pub first : front.first ≡ front.row * audit.left.lanes
  pub lanes : front.lanes ≡ audit.left.lanes
  pub known : front.known ≡ audit.probe.lanes

-- if the stored result of a probe is right, the returned result is whether the reason holds at the pair with the table's pairs left, and the new stored result is right
pub record AnswersReason (A : Arena ℕ) (left : Remaining) (p : ℕ) (reason : Reason) (old new : RowProbe) (result : Bool) : Type 0 where
  pub justified : (gone : ℕ → Bool) → AreRows left.lanes (λ q. not (gone q)) left.words.items → HoldsWhereKnown A left.lanes gone old → result ≡ is_justified A gone p reason
  pub known : (gone : ℕ → Bool) → AreRows left.lanes (λ q. not (gone q)) left.words.items → HoldsWhereKnown A left.lanes gone old → HoldsWhereKnown A left.lanes gone new

-- the result for the pair at a row and a lane of the table is right
abbrev pub AnswersAt : Arena ℕ → Remaining → ℕ × ℕ → Reason → RowProbe → RowProbe → Bool → Type 0
AnswersAt A left place reason old new result = AnswersReason A left (place.0 * left.lanes + place.1) reason old new result

-- the place is a row and a lane of the table, and the reason is one of the system
pub record CanProbeAt (A : Arena ℕ) (width : ℕ) (left : Remaining) (place : ℕ × ℕ) (why : Reason) : Type 0 where
  pub lanes : left.lanes ≡ width
  pub room : length left.words.items * width ≡ length A.nodes
  pub pair : place.0 * left.lanes + place.1 < length A.nodes
  pub lane : place.1 < left.lanes
  pub reason : IsReasonOf A why

-- the table has the pairs that the list doesn't name, and the stored result of a probe is right
pub record HasListed (A : Arena ℕ) (L : List (Entry ℕ)) (left : Remaining) (probe : RowProbe) : Type 0 where
  pub remain : Remain (length A.nodes) (is_listed A L) left
  pub known : HoldsWhereKnown A left.lanes (is_listed A L) probe

-- the lines read so far are those of the text
pub record HasRead (A : Arena ℕ) (text : List (List ℕ)) (audit : Audit) : Type 0 where
  pub due : audit.due ≡ due_after text
  pub list : HasListed A (entries_on A (drop 2 text)) audit.left audit.probe

-- the next line's fault is returned, and a line without a fault is read
pub record Judges (A : Arena ℕ) (old new : Audit) (line : List ℕ) (fault : Option Why) : Type 0 where
  pub named : (text : List (List ℕ)) → HasRead A text old → option_map fault_of fault ≡ line_fault A text (Some line)
  pub read : (text : List (List ℕ)) → HasRead A text old → fault ≡ None → HasRead A (text ++ line ∷ []) new

-- the entry's pair is one of the system, its line is judged, the table keeps its rows, and the same line stays due
pub record TakesEntry (A : Arena ℕ) (lanes : ℕ) (old new : Audit) (x : Entry ℕ) (fault : Option Why) : Type 0 where
  pub judged : (line : List ℕ) → entry_of (length A.nodes) A.actions line ≡ Some x → Judges A old new line fault
  pub inside : x.node < length A.nodes
  pub shaped : IsInRows lanes (length A.nodes) new.left
  pub due : new.due ≡ old.due

-- the audit takes the entry of the pair and the reason
abbrev pub HasTaken : {J R : Type 0} → RulesView J R → J → Audit → Audit → ℕ × Reason → Option Why → Type 0
HasTaken J joint old new x fault = TakesEntry (J.arena joint) (J.lanes joint) old new (entry_with x) fault
