-- Refusals: the first broken rule of a document, and the results that state it.
use Rattle.std.specs.Prelude.{◌≡◌, ℕ, List, Option, Some, Result, Ok, Err}
use Rattle.roman_io.specs.Faults.{Rose}
use Rattle.roman_io.specs.Shelf.{Texts}
use Rattle.roman_read.specs.declared.rules.Kind.TheVariants.{Form}
use Rattle.roman_parts.specs.declared.error.List.TheVariants.{Whole}
use Rattle.roman_parts.specs.declared.error.PartError.{PartError}
use Rattle.roman_parts.specs.declared.error.PartError.TheVariants as part_error
use Rattle.roman_library.specs.declared.refusal.Part.{Part}
use Rattle.roman_library.specs.declared.refusal.Refusal.{Refusal}
use Rattle.roman_library.specs.declared.refusal.LoadError.{LoadError}
use Rattle.roman_library.specs.declared.refusal.LoadError.TheVariants as error

-- the refusal of a part, with the document and the part (no definition runs out of memory, so the last case is never used)
abbrev pub refusal_of : List ℕ → Part → PartError → Refusal
refusal_of document part (part_error.Refused kind list index) = record { document = document; kind = kind; part = part; list = list; index = index }
refusal_of document part part_error.Memory = record { document = document; kind = Form; part = part; list = Whole; index = 0 }

-- the reading of a part, with the document and the part in its refusal
abbrev pub located : {X : Type 0} → List ℕ → Part → Result X PartError → Result X Refusal
located document part (Ok x) = Ok x
located document part (Err e) = Err (refusal_of document part e)

-- the refusal is the one that the definition gives; nothing is stated for a fault, or if memory runs out
abbrev pub Stops : {Y : Type 0} → LoadError → Result Y Refusal → Type 0
Stops error.Fault reading = Unit {0}
Stops (error.Refused refusal) reading = reading ≡ Err refusal
Stops error.Memory reading = Unit {0}

-- the code returns the value that the definition gives, seen through a view, or the same refusal
abbrev pub Loads : {X Y : Type 0} → (X → Y) → Result X LoadError → Result Y Refusal → Type 0
Loads view (Ok x) reading = reading ≡ Ok (view x)
Loads view (Err e) reading = Stops e reading

-- the count of faults rose if the error is a fault, and stayed the same otherwise
abbrev pub IsCause : ℕ → ℕ → LoadError → Type 0
IsCause old new error.Fault = Rose old new
IsCause old new (error.Refused refusal) = new ≡ old
IsCause old new error.Memory = new ≡ old

-- the count of faults rose if the result is a fault, and stayed the same otherwise
abbrev pub CausesLoad : {T : Type 0} → ℕ → ℕ → Result T LoadError → Type 0
CausesLoad old new (Ok x) = new ≡ old
CausesLoad old new (Err e) = IsCause old new e

-- if the shelf exposes its texts, the code returns the value or the refusal that the definition gives on them
abbrev pub LoadsFrom : {X Y : Type 0} → Option Texts → (X → Y) → Result X LoadError → (Texts → Result Y Refusal) → Type 0
LoadsFrom told view result reading = (texts : Texts) → told ≡ Some texts → Loads view result (reading texts)

-- the shelf's texts are as before, and its count of faults rose if the result is a fault
pub record LeavesShelf {T : Type 0} (told now : Option Texts) (old new : ℕ) (result : Result T LoadError) : Type 0 where
  pub texts : now ≡ told
  pub cause : CausesLoad old new result

-- the error is the refusal, unless memory runs out
abbrev pub IsRefusal : Refusal → LoadError → Type 0
IsRefusal refusal error.Fault = ⊥
IsRefusal refusal (error.Refused given) = given ≡ refusal
IsRefusal refusal error.Memory = Unit {0}

-- the error of a part, with the document and the part
abbrev pub LocatesError : List ℕ → Part → PartError → LoadError → Type 0
LocatesError document part (part_error.Refused kind list index) given = IsRefusal (refusal_of document part (part_error.Refused kind list index)) given
LocatesError document part part_error.Memory given = given ≡ error.Memory

-- the value that was read is returned, and an error is returned with the document and the part
abbrev pub Locates : {X : Type 0} → List ℕ → Part → Result X PartError → Result X LoadError → Type 0
Locates document part (Ok x) (Ok y) = y ≡ x
Locates document part (Ok x) (Err given) = ⊥
Locates document part (Err e) (Ok y) = ⊥
Locates document part (Err e) (Err given) = LocatesError document part e given

-- the result isn't a fault
abbrev pub IsQuiet : {T : Type 0} → Result T LoadError → Type 0
IsQuiet (Ok x) = Unit {0}
IsQuiet (Err error.Fault) = ⊥
IsQuiet (Err (error.Refused refusal)) = Unit {0}
IsQuiet (Err error.Memory) = Unit {0}

-- the code returns the value or the refusal that the definition gives, without a fault
pub record LoadsQuietly {X Y : Type 0} (view : X → Y) (result : Result X LoadError) (reading : Result Y Refusal) : Type 0 where
  pub loads : Loads view result reading
  pub quiet : IsQuiet result
