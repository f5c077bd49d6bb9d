-- The parts and services that a document lists, and the effect of their loading on a shelf, for contracts.
use Rattle.std.specs.Prelude.{ℕ, ◌++◌, List, [], ◌∷◌, Result}
use Rattle.serde_json.specs.Data.{Items}
use Rattle.roman_io.specs.Shelf.{Texts}
use Rattle.roman_io.specs.declared.shelf.Shelf.{Ghosts as ShelfView}
use Rattle.roman_read.specs.Items.{each_item}
use Rattle.roman_parts.specs.Named.{NamedBeh, NamedEnv}
use Rattle.roman_library.specs.Documents.{PartAt, ReadAfter, with_listed, with_service_read}
use Rattle.roman_library.specs.Refusals.{LeavesShelf}
use Rattle.roman_library.specs.declared.library.Service.{Service}
use Rattle.roman_library.specs.declared.refusal.LoadError.{LoadError}
use Rattle.roman_library.specs.declared.refusal.Refusal.{Refusal}

-- the parts in the items of a list
abbrev pub parts_listed : {X : Type 0} → PartAt → ReadAfter X → Texts → List ℕ → NamedEnv → Items → Result (List X) Refusal
parts_listed at read texts document env items = each_item (with_listed at read texts document env) 0 [] items

-- the services in the items of a list
abbrev pub services_listed : List ℕ → ℕ → List NamedBeh → Items → Result (List Service) Refusal
services_listed document version catalogue items = each_item (with_service_read document version catalogue) 0 [] items

-- if the parts before have the property, they have it with one more
abbrev pub StaysWith : {X : Type 0} → (List X → Type 0) → List X → X → Type 0
StaysWith Known before x = Known before → Known (before ++ x ∷ [])

-- the texts of the shelf are as before, and its count of faults rose if the result is a fault
abbrev pub LeavesTexts : {X T : Type 0} → ShelfView X → X → X → Result T LoadError → Type 0
LeavesTexts F old new result = LeavesShelf (F.texts old) (F.texts new) (F.faults old) (F.faults new) result
