-- Properties of accepted documents: distinct names, and parts that a document can state.
use Rattle.std.specs.Prelude.{◌≡◌, ℕ, List, map, Ok, IsTrue}
use Rattle.serde_json.specs.Data.{Data}
use Rattle.roman_io.specs.Shelf.{Texts}
use Rattle.roman_model.specs.Lists.{IsIn, HasNoRepeats}
use Rattle.roman_model.specs.System.{IsDeterministic}
use Rattle.roman_read.specs.Names.{is_name}
use Rattle.roman_parts.specs.Named.{NamedEnv, NamedBeh, NamedTarget}
use Rattle.roman_parts.specs.Parts.{environment_of, behaviour_of, target_of}
use Rattle.roman_library.specs.Documents.{library_of}
use Rattle.roman_library.specs.Library.{PlainLibrary, behaviour_name, service_name}
use Rattle.roman_library.specs.declared.library.Service.{Service}
use Rattle.roman_library.specs.Targets.{PlainTargets, NamesTargets}
use Rattle.roman_document_laws.specs.PartWriter.{IsSayableEnv, IsSayableBeh, IsSayableTarget}
use Rattle.roman_document_laws.specs.DocumentWriter.{IsSayable}
use Rattle.roman_document_laws.specs.SeveralWriter.{AreSayable}

-- no name is used for two actions, states, behaviours or services, the services have valid names, and the target is deterministic
pub record HasClearNames (library : PlainLibrary) : Type 0 where
  pub actions : HasNoRepeats library.environment.actions
  pub environment : HasNoRepeats library.environment.states
  pub behaviours : HasNoRepeats (map behaviour_name library.catalogue)
  pub states : (b : NamedBeh) → IsIn b library.catalogue → HasNoRepeats b.states
  pub services : HasNoRepeats (map service_name library.services)
  pub named : (x : Service) → IsIn x library.services → IsTrue (is_name x.name)
  pub target : HasNoRepeats library.target.states
  pub single : IsDeterministic library.target.beh

-- the library of each accepted document has clear names, also if it combines several targets
abbrev pub AcceptedNamesAreClear : Type 0
AcceptedNamesAreClear = (texts : Texts) (document : List ℕ) (library : PlainLibrary) → library_of texts document ≡ Ok library → HasClearNames library

-- a document can state each part that a value means
pub record PartsCanBeSaid : Type 0 where
  pub environment : (d : Data) (env : NamedEnv) → environment_of d ≡ Ok env → IsSayableEnv env
  pub behaviour : (env : NamedEnv) (d : Data) (b : NamedBeh) → behaviour_of env d ≡ Ok b → IsSayableBeh env b
  pub target : (env : NamedEnv) (d : Data) (t : NamedTarget) → target_of env d ≡ Ok t → IsSayableTarget env t

-- a document with one target can state the library of each accepted document that doesn't name several targets
abbrev pub AcceptedCanBeSaid : Type 0
AcceptedCanBeSaid =
    (texts : Texts) (document : List ℕ) (library : PlainLibrary) → library_of texts document ≡ Ok library → ((said : PlainTargets) → NamesTargets texts document said → ⊥) → IsSayable library

-- a document can state the parts and targets that each accepted document with several targets names, with the services and the limit of its library
abbrev pub AcceptedSeveralCanBeSaid : Type 0
AcceptedSeveralCanBeSaid =
    (texts : Texts) (document : List ℕ) (library : PlainLibrary) (said : PlainTargets) → library_of texts document ≡ Ok library → NamesTargets texts document said →
    AreSayable said library.services library.limit
