-- Each accepted document means a well-formed library: this follows from the definitions alone.
use Rattle.std.specs.Prelude.{◌≡◌, ℕ, List, length, Ok}
use Rattle.roman_io.specs.Shelf.{Texts}
use Rattle.roman_library.specs.Documents.{library_of}
use Rattle.roman_library.specs.Library.{PlainLibrary, IsLibrary}

-- the library is well formed, and each state and action of its environment has a name
pub record IsKnownLibrary (library : PlainLibrary) : Type 0 where
  pub known : IsLibrary library
  pub states : length library.environment.states ≡ library.environment.env.states
  pub actions : length library.environment.actions ≡ library.environment.env.actions

-- the library of each accepted document is well formed
abbrev pub LibrariesAreKnown : Type 0
LibrariesAreKnown = (texts : Texts) (document : List ℕ) (library : PlainLibrary) → library_of texts document ≡ Ok library → IsKnownLibrary library
