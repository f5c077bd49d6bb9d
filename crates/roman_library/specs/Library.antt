-- Libraries: the content of system documents.
use Rattle.std.specs.Prelude.{◌≡◌, ℕ, ◌<◌, ◌≤◌, List, map, length, slice_get, All, IfSome}
use Rattle.roman_model.specs.Lists.{HasNoRepeats}
use Rattle.roman_model.specs.System.{IsEnv}
use Rattle.roman_model.specs.declared.limits.TheConstants.{MAX_BEHAVIOURS, MAX_SERVICES, MAX_CELLS}
use Rattle.roman_parts.specs.Named.{NamedEnv, NamedBeh, NamedTarget, IsBehaviour, IsTarget}
use Rattle.roman_multi.specs.Combining.{PlainCombined}
use Rattle.roman_multi.specs.declared.parts.Named.{Named}
use Rattle.roman_library.specs.declared.library.Library.{Library}
use Rattle.roman_library.specs.declared.library.Service.{Service}

-- the environment, the behaviours that services may have, the services, the target, and the limit on cells
pub record PlainLibrary : Type 0 where
  pub environment : NamedEnv
  pub catalogue : List NamedBeh
  pub services : List Service
  pub target : NamedTarget
  pub limit : ℕ

-- the library as a plain record
abbrev pub plain : Library → PlainLibrary
plain library = record {
  environment = library.environment;
  catalogue = library.catalogue.items;
  services = library.services.items;
  target = library.target;
  limit = library.limit;
}

-- the name of a behaviour
abbrev pub behaviour_name : NamedBeh → List ℕ
behaviour_name behaviour = behaviour.name

-- the name of a service
abbrev pub service_name : Service → List ℕ
service_name service = service.name

-- the service's behaviour is in the catalogue, and its state is a state of that behaviour
pub record IsService (catalogue : List NamedBeh) (service : Service) : Type 0 where
  pub behaviour : service.behaviour < length catalogue
  pub state : IfSome (slice_get catalogue service.behaviour) (λ behaviour. service.state < behaviour.beh.states)

-- the behaviours are over the environment, and no two have the same name
pub record IsCatalogue (environment : NamedEnv) (catalogue : List NamedBeh) : Type 0 where
  pub known : All (IsBehaviour environment) catalogue
  pub names : HasNoRepeats (map behaviour_name catalogue)

-- a catalogue of at most 32 behaviours
pub record IsSmallCatalogue (environment : NamedEnv) (catalogue : List NamedBeh) : Type 0 where
  pub known : IsCatalogue environment catalogue
  pub few : length catalogue ≤ MAX_BEHAVIOURS

-- two to four targets are over the environment
pub record AreTargets (environment : NamedEnv) (targets : List Named) : Type 0 where
  pub known : All (λ named. IsTarget environment named.target) targets
  pub count : (2 ≤ length targets) × (length targets ≤ 4)

-- the services' numbers are in range, and no two services have the same name
pub record AreServices (catalogue : List NamedBeh) (services : List Service) : Type 0 where
  pub known : All (IsService catalogue) services
  pub names : HasNoRepeats (map service_name services)

-- at most 32 services of a catalogue
pub record AreFewServices (catalogue : List NamedBeh) (services : List Service) : Type 0 where
  pub known : AreServices catalogue services
  pub few : length services ≤ MAX_SERVICES

-- the parts made from a catalogue are parts of a library, and services of the catalogue are services of the made catalogue
pub record ArePartsOf (behaviours : List NamedBeh) (made : PlainCombined) : Type 0 where
  pub environment : IsEnv made.environment.env
  pub catalogue : IsCatalogue made.environment made.catalogue
  pub count : length made.catalogue ≡ length behaviours
  pub services : (services : List Service) → AreServices behaviours services → AreServices made.catalogue services
  pub target : IsTarget made.environment made.target

-- all parts are over one environment, all numbers are in range, the limits hold, and no two behaviours and no two services have the same name
pub record IsLibrary (library : PlainLibrary) : Type 0 where
  pub environment : IsEnv library.environment.env
  pub catalogue : IsCatalogue library.environment library.catalogue
  pub few_behaviours : length library.catalogue ≤ MAX_BEHAVIOURS
  pub services : AreServices library.catalogue library.services
  pub few_services : length library.services ≤ MAX_SERVICES
  pub target : IsTarget library.environment library.target
  pub limit : (0 < library.limit) × (library.limit ≤ MAX_CELLS)
