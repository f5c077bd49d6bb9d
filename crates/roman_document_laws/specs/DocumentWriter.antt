-- A writer of documents, which is only a definition: a JSON value that means a given library, with all parts in place.
use Rattle.std.specs.Prelude.{◌≡◌, ℕ, List, [], map, Ok, IsTrue, codes, slice_index_or}
use Rattle.serde_json.specs.Data.{Data, boolean, number, string, object, no_members, member, unsigned}
use Rattle.roman_io.specs.Shelf.{Texts}
use Rattle.roman_model.specs.Lists.{IsIn}
use Rattle.roman_read.specs.Names.{is_name}
use Rattle.roman_parts.specs.Named.{NamedBeh}
use Rattle.roman_document_laws.specs.PartWriter.{list_value, place_value, environment_value, behaviour_value, target_value, IsSayableEnv, IsSayableBeh, IsSayableTarget}
use Rattle.roman_library.specs.Documents.{library_in}
use Rattle.roman_library.specs.Library.{PlainLibrary, IsLibrary, behaviour_name}
use Rattle.roman_library.specs.declared.library.Service.{Service}

-- ---- the writer

-- the names of the states of the behaviour at place k
abbrev pub catalogue_states : List NamedBeh → ℕ → List (List ℕ)
catalogue_states catalogue k = slice_index_or (map (λ b. b.states) catalogue) k []

-- the value of a service, with the names of its behaviour and its state
abbrev pub service_value : List NamedBeh → Service → Data
service_value catalogue x =
    object (member (codes "behaviour") (place_value (map behaviour_name catalogue) x.behaviour)
    (member (codes "frozen") (boolean x.frozen)
    (member (codes "name") (string x.name)
    (member (codes "rests") (boolean x.rests)
    (member (codes "state") (place_value (catalogue_states catalogue x.behaviour) x.state)
    no_members)))))

-- the value of a library: a document of version 2
abbrev pub library_value : PlainLibrary → Data
library_value library =
    object (member (codes "behaviours") (list_value (map (behaviour_value library.environment) library.catalogue))
    (member (codes "environment") (environment_value library.environment)
    (member (codes "limit") (number (unsigned library.limit))
    (member (codes "roman") (number (unsigned 2))
    (member (codes "services") (list_value (map (service_value library.catalogue) library.services))
    (member (codes "target") (target_value library.environment library.target)
    no_members))))))

-- ---- libraries that a document can state

-- a document can state the library: it is well formed, a document can state each part, and the services have valid names
pub record IsSayable (library : PlainLibrary) : Type 0 where
  pub known : IsLibrary library
  pub environment : IsSayableEnv library.environment
  pub catalogue : (b : NamedBeh) → IsIn b library.catalogue → IsSayableBeh library.environment b
  pub target : IsSayableTarget library.environment library.target
  pub services : (x : Service) → IsIn x library.services → IsTrue (is_name x.name)

-- the written value of each library that a document can state means that library, for all texts of a shelf
abbrev pub LibrariesAreSaid : Type 0
LibrariesAreSaid = (texts : Texts) (document : List ℕ) (library : PlainLibrary) → IsSayable library → library_in texts document (library_value library) ≡ Ok library
