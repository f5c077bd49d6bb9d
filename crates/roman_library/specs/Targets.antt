-- The content of a document with several targets before they are combined, and the library that combines them.
use Rattle.std.specs.Prelude.{◌≡◌, ℕ, ◌≤◌, List, length, None, Ok, All}
use Rattle.serde_json.specs.Data.{Data}
use Rattle.roman_io.specs.Shelf.{Texts}
use Rattle.roman_model.specs.System.{IsEnv}
use Rattle.roman_parts.specs.Named.{NamedEnv, NamedBeh, IsTarget}
use Rattle.roman_multi.specs.Combining.{forbidding, combined_parts}
use Rattle.roman_multi.specs.declared.parts.Named.{Named}
use Rattle.roman_library.specs.Documents.{value_at, version_of, environment_in, catalogue_in, targets_in, library_of}
use Rattle.roman_library.specs.Library.{PlainLibrary, IsCatalogue, AreServices}
use Rattle.roman_library.specs.declared.refusal.Part.TheVariants as part

-- an environment, behaviours and targets over its plain actions
pub record PlainTargets : Type 0 where
  pub environment : NamedEnv
  pub catalogue : List NamedBeh
  pub targets : List Named

-- the document has version 3, and names this environment, these behaviours and these targets
pub record NamesTargets (texts : Texts) (document : List ℕ) (said : PlainTargets) : Type 0 where
  pub value : Data
  pub reads : value_at texts document part.System ≡ Ok value
  pub version : version_of value ≡ Ok 3
  pub environment : environment_in texts document value ≡ Ok said.environment
  pub catalogue : catalogue_in texts document said.environment value ≡ Ok said.catalogue
  pub targets : targets_in texts document said.environment value ≡ Ok said.targets

-- the content of the document is in range, no rule forbids the combination of its targets, and the library has the combined parts
pub record CombinesTargets (said : PlainTargets) (library : PlainLibrary) : Type 0 where
  pub known : IsEnv said.environment.env
  pub behaviours : IsCatalogue said.environment said.catalogue
  pub targets : All (λ named. IsTarget said.environment named.target) said.targets
  pub count : (2 ≤ length said.targets) × (length said.targets ≤ 4)
  pub allowed : forbidding said.environment said.targets ≡ None
  pub parts : combined_parts said.environment said.catalogue said.targets
      ≡ record { environment = library.environment; catalogue = library.catalogue; target = library.target }
  pub services : AreServices said.catalogue library.services

-- the library of an accepted document with several targets combines the targets that the document names
abbrev pub TargetsAreCombined : Type 0
TargetsAreCombined =
    (texts : Texts) (document : List ℕ) (library : PlainLibrary) (said : PlainTargets) → library_of texts document ≡ Ok library → NamesTargets texts document said → CombinesTargets said library

-- each accepted document of version 3 names targets
abbrev pub AcceptedNameTargets : Type 0
AcceptedNameTargets =
    (texts : Texts) (document : List ℕ) (library : PlainLibrary) (value : Data) → library_of texts document ≡ Ok library → value_at texts document part.System ≡ Ok value → version_of value ≡ Ok 3 →
    (said : PlainTargets) × NamesTargets texts document said
