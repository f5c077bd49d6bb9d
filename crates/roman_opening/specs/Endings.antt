-- How the parts of a run end: the status that they return, and the text that they wrote.
use Rattle.std.specs.Prelude.{◌≡◌, ◌≢◌, ℕ, ◌<◌, List, [], Option, IfSome, Result, Ok, Err}
use Rattle.roman_io.specs.Shelf.{Texts}
use Rattle.roman_io.specs.Sink.{Wrote, WrotePrefix}
use Rattle.roman_io.specs.declared.shelf.Shelf.{Ghosts as ShelfView}
use Rattle.roman_io.specs.declared.sink.Sink.{Ghosts as SinkView}
use Rattle.roman_model.specs.Numbers.{sizes_of, count, pair_at}
use Rattle.roman_joint.specs.NamedSys.{system_of}
use Rattle.roman_library.specs.Documents.{library_of}
use Rattle.roman_library.specs.Library.{PlainLibrary, plain}
use Rattle.roman_library.specs.declared.library.Library.{Library}
use Rattle.roman_relation.specs.Greatest.{IsRelation}
use Rattle.roman_start.specs.Starts.{parts_of, start_pair_of}
use Rattle.roman_opening.specs.Causes.{ShelfCause, SinkCause}
use Rattle.roman_opening.specs.Opening.{Accepted, document_opening, OnOpening, library_system}
use Rattle.roman_opening.specs.Outputs.{Outputs, outputs_of}
use Rattle.roman_opening.specs.declared.opening.Related.{Related}
use Rattle.roman_opening.specs.declared.status.Status.{Status}
use Rattle.roman_opening.specs.declared.status.Status.TheVariants as status

-- the whole text of such a run was written, and the run ends with this status
pub record WritesText (IsRun : List ℕ → Status → Type 0) (old new : Option (List ℕ)) (result : Status) : Type 0 where
  pub text : List ℕ
  pub run : IsRun text result
  pub wrote : Wrote old new text

-- a prefix of the text of such a run was written
pub record WritesPrefix (IsRun : List ℕ → Status → Type 0) (old new : Option (List ℕ)) : Type 0 where
  pub text : List ℕ
  pub ends : Status
  pub run : IsRun text ends
  pub wrote : WrotePrefix old new text

-- the text of such a run was written, or a prefix of one if the sink failed; after other faults and out of memory nothing is stated
abbrev pub Writes : (List ℕ → Status → Type 0) → Option (List ℕ) → Option (List ℕ) → Status → Type 0
Writes IsRun old new status.ShelfFault = Unit {0}
Writes IsRun old new status.ReadFault = Unit {0}
Writes IsRun old new status.WriteFault = WritesPrefix IsRun old new
Writes IsRun old new status.Memory = Unit {0}
Writes IsRun old new result = WritesText IsRun old new result

-- nothing was written at a fault of the shelf or out of memory; the status is neither Usage nor ReadFault
abbrev pub EndsBare : Option (List ℕ) → Option (List ℕ) → Status → Type 0
EndsBare old new status.Usage = ⊥
EndsBare old new status.ShelfFault = Wrote old new []
EndsBare old new status.ReadFault = ⊥
EndsBare old new status.Memory = Wrote old new []
EndsBare old new _ = Unit {0}

-- how a part of a run ends: the text that it wrote, and the counts of faults that rose; the shelf's texts are the same
pub record Ends (IsRun : Texts → List ℕ → Status → Type 0) (old new : Outputs) (result : Status) : Type 0 where
  pub writes : IfSome old.texts (λ texts. Writes (IsRun texts) old.written new.written result)
  pub stops : EndsBare old.written new.written result
  pub texts : new.texts ≡ old.texts
  pub shelf : ShelfCause old.shelf_faults new.shelf_faults result
  pub out : SinkCause old.out_faults new.out_faults result

-- ---- opened values

-- the property holds of the value, for the texts of the shelf, and nothing was changed
pub record Opened {X : Type 0} (Holds : Texts → X → Type 0) (old new : Outputs) (x : X) : Type 0 where
  pub holds : IfSome old.texts (λ texts. Holds texts x)
  pub same : new ≡ old

-- the run ended before its work was done
pub record EndsEarly (IsRun : Texts → List ℕ → Status → Type 0) (old new : Outputs) (result : Status) : Type 0 where
  pub ends : Ends IsRun old new result
  pub early : result ≢ status.Done

-- a value was opened, or the run ended without it
abbrev pub Opens : {X : Type 0} → (Texts → X → Type 0) → (Texts → List ℕ → Status → Type 0) → Outputs → Outputs → Result X Status → Type 0
Opens Holds IsRun old new (Ok x) = Opened Holds old new x
Opens Holds IsRun old new (Err result) = EndsEarly IsRun old new result

-- no library is accepted, and the run writes the line of the refusal or that of the limit
abbrev pub TurnsAway : List ℕ → Texts → List ℕ → Status → Type 0
TurnsAway name texts = OnOpening (λ library out result. ⊥) (document_opening texts name)

-- the document of that name means this library
abbrev pub MeansLibrary : List ℕ → Texts → PlainLibrary → Type 0
MeansLibrary name texts library = library_of texts name ≡ Ok library

-- the document of that name is accepted, and the property holds of its library
pub record Accepts (name : List ℕ) (texts : Texts) (Holds : PlainLibrary → Type 0) : Type 0 where
  pub library : PlainLibrary
  pub accepted : document_opening texts name ≡ Accepted library
  pub holds : Holds library

-- a value was made from the document of that name, or the run ended with the line that turns the document away
abbrev pub OpensDocument : {X : Type 0} → (PlainLibrary → X → Type 0) → List ℕ → Outputs → Outputs → Result X Status → Type 0
OpensDocument Holds name old new result = Opens (λ texts x. Accepts name texts (λ library. Holds library x)) (TurnsAway name) old new result

-- a value was made from the document of that name, or the run ended, in words for contracts at bounds `F: Shelf` and `O: Sink`
abbrev pub OpensFrom : {F O X : Type 0} → ShelfView F → SinkView O → (PlainLibrary → X → Type 0) → List ℕ → F → O → F → O → Result X Status → Type 0
OpensFrom F O Holds name shelf out shelf_now out_now result = OpensDocument Holds name (outputs_of F O shelf out) (outputs_of F O shelf_now out_now) result

-- the library of the document of that name was read, or the run ended with the line that turns the document away
abbrev pub ReadsLibrary : {F O : Type 0} → ShelfView F → SinkView O → List ℕ → F → O → F → O → Result Library Status → Type 0
ReadsLibrary F O name shelf out shelf_now out_now result =
    Opens (λ texts library. MeansLibrary name texts (plain library)) (TurnsAway name) (outputs_of F O shelf out) (outputs_of F O shelf_now out_now) result

-- the property holds of the value, for some library
abbrev pub IsOfSome : {X : Type 0} → (PlainLibrary → X → Type 0) → X → Type 0
IsOfSome Holds x = (library : PlainLibrary) × Holds library x

-- the greatest relation of the library's system, and the number of its start pair
pub record IsRelated (library : PlainLibrary) (related : Related) : Type 0 where
  pub parts : related.relation.joint ≡ parts_of library
  pub start : pair_at (sizes_of (library_system library)) related.start ≡ start_pair_of library
  pub below : related.start < count (sizes_of (system_of related.relation.joint))
  pub whole : IsRelation related.relation.joint related.relation.order

-- ---- single steps

-- the status after a put: `ends` if it succeeded, WriteFault if it failed
abbrev pub Finishes : {T E : Type 0} → Result T E → Status → Status → Type 0
Finishes (Ok x) ends result = result ≡ ends
Finishes (Err e) ends result = result ≡ status.WriteFault
