-- The extent of the system of a library.
use Rattle.std.specs.Prelude.{◌≡◌, ℕ, Result, Ok, Err}
use Rattle.roman_model.specs.Lists.{product_of}
use Rattle.roman_joint.specs.NamedSys.{beh_at, cells, system_of}
use Rattle.roman_library.specs.Library.{PlainLibrary}
use Rattle.roman_library.specs.declared.library.Service.{Service}
use Rattle.roman_library.specs.Refusals.{Stops}
use Rattle.roman_library.specs.declared.refusal.LoadError.{LoadError}
use Rattle.roman_library.specs.declared.refusal.Refusal.{Refusal}
use Rattle.roman_start.specs.Starts.{parts_of}
use Rattle.roman_start.specs.declared.extent.Extent.{Extent}

-- the number of states of the service's behaviour
abbrev pub states_in : PlainLibrary → Service → ℕ
states_in library service = (beh_at library.catalogue service.behaviour).states

-- the product of the sizes is the number of cells of the library's system, and the limit is the library's
pub record IsExtent (library : PlainLibrary) (extent : Extent) : Type 0 where
  pub cells : product_of extent.sizes.items ≡ cells (system_of (parts_of library))
  pub limit : extent.limit ≡ library.limit

-- the extent is that of an accepted library; a refused document has no extent
abbrev pub IsExtentOf : Extent → Result PlainLibrary Refusal → Type 0
IsExtentOf extent (Ok library) = IsExtent library extent
IsExtentOf extent (Err refusal) = ⊥

-- a returned extent is that of the library that the document means; an error is one that loading the document returns
abbrev pub Measures : Result Extent LoadError → Result PlainLibrary Refusal → Type 0
Measures (Ok extent) reading = IsExtentOf extent reading
Measures (Err e) reading = Stops e reading
