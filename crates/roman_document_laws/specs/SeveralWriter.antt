-- A writer of documents with several targets, which is only a definition.
use Rattle.std.specs.Prelude.{◌≡◌, ℕ, ◌<◌, ◌≤◌, List, map, length, None, Ok, IsTrue, codes}
use Rattle.serde_json.specs.Data.{Data, number, string, object, no_members, member, unsigned}
use Rattle.roman_io.specs.Shelf.{Texts}
use Rattle.roman_model.specs.Lists.{IsIn, HasNoRepeats}
use Rattle.roman_model.specs.declared.limits.TheConstants.{MAX_BEHAVIOURS, MAX_SERVICES, MAX_CELLS}
use Rattle.roman_read.specs.Names.{is_name}
use Rattle.roman_parts.specs.Named.{NamedEnv, NamedBeh}
use Rattle.roman_multi.specs.Combining.{target_name, forbidding, combined_parts}
use Rattle.roman_multi.specs.declared.parts.Named.{Named}
use Rattle.roman_library.specs.Documents.{library_in}
use Rattle.roman_library.specs.Library.{PlainLibrary, AreServices, behaviour_name}
use Rattle.roman_library.specs.Targets.{PlainTargets}
use Rattle.roman_library.specs.declared.library.Service.{Service}
use Rattle.roman_document_laws.specs.PartWriter.{list_value, names_value, place_value, places_value, move_value, environment_value, behaviour_value, IsSayableEnv, IsSayableBeh, IsSayableTarget}
use Rattle.roman_document_laws.specs.DocumentWriter.{service_value}

-- the value of a target with its name
abbrev pub named_target_value : NamedEnv → Named → Data
named_target_value env named =
    let t = named.target in
    object (member (codes "final") (places_value t.states t.beh.finals)
    (member (codes "name") (string named.name)
    (member (codes "start") (place_value t.states t.beh.start)
    (member (codes "states") (names_value t.states)
    (member (codes "steps") (list_value (map (move_value env.states env.actions t.states) t.beh.steps))
    no_members)))))

-- the value of a document of version 3 with these parts, services and limit
abbrev pub several_value : PlainTargets → List Service → ℕ → Data
several_value said services limit =
    object (member (codes "behaviours") (list_value (map (behaviour_value said.environment) said.catalogue))
    (member (codes "environment") (environment_value said.environment)
    (member (codes "limit") (number (unsigned limit))
    (member (codes "roman") (number (unsigned 3))
    (member (codes "services") (list_value (map (service_value said.catalogue) services))
    (member (codes "targets") (list_value (map (named_target_value said.environment) said.targets))
    no_members))))))

-- the library that combines the targets, with these services and limit
abbrev pub combined_library : PlainTargets → List Service → ℕ → PlainLibrary
combined_library said services limit =
    let made = combined_parts said.environment said.catalogue said.targets in
    record { environment = made.environment; catalogue = made.catalogue; services = services; target = made.target; limit = limit }

-- a document can state the targets with these services and limit: it can state each part, no name is used twice, and no rule forbids the combination
pub record AreSayable (said : PlainTargets) (present : List Service) (most : ℕ) : Type 0 where
  pub environment : IsSayableEnv said.environment
  pub catalogue : (b : NamedBeh) → IsIn b said.catalogue → IsSayableBeh said.environment b
  pub behaviours : HasNoRepeats (map behaviour_name said.catalogue)
  pub few_behaviours : length said.catalogue ≤ MAX_BEHAVIOURS
  pub targets : (named : Named) → IsIn named said.targets → IsTrue (is_name named.name) × IsSayableTarget said.environment named.target
  pub names : HasNoRepeats (map target_name said.targets)
  pub count : (2 ≤ length said.targets) × (length said.targets ≤ 4)
  pub allowed : forbidding said.environment said.targets ≡ None
  pub services : AreServices said.catalogue present
  pub few_services : length present ≤ MAX_SERVICES
  pub named : (x : Service) → IsIn x present → IsTrue (is_name x.name)
  pub limit : (0 < most) × (most ≤ MAX_CELLS)

-- the written value means the library that combines the targets, for all texts of a shelf
abbrev pub SeveralAreSaid : Type 0
SeveralAreSaid =
    (texts : Texts) (document : List ℕ) (said : PlainTargets) (services : List Service) (limit : ℕ) → AreSayable said services limit →
    library_in texts document (several_value said services limit) ≡ Ok (combined_library said services limit)
