-- The values of the lists of a document, and their refusals, characterised by properties.
use Rattle.std.specs.Prelude.{◌≡◌, ◌≤◌, ◌↔◌, ℕ, List, length, Ok, Err, codes}
use Rattle.roman_io.specs.Shelf.{Texts}
use Rattle.serde_json.specs.Data.{Data}
use Rattle.roman_model.specs.declared.limits.TheConstants.{MAX_BEHAVIOURS, MAX_SERVICES}
use Rattle.roman_document_laws.specs.Listed.{IsListOf, BreaksList}
use Rattle.roman_read.specs.declared.rules.Kind.{Kind}
use Rattle.roman_parts.specs.Named.{NamedEnv, NamedBeh}
use Rattle.roman_parts.specs.declared.error.List.{List as Place}
use Rattle.roman_parts.specs.declared.error.List.TheVariants as list
use Rattle.roman_parts.specs.declared.error.PartError.{PartError}
use Rattle.roman_parts.specs.declared.error.PartError.TheVariants.{Refused}
use Rattle.roman_library.specs.Documents.{behaviour_in, catalogue_in, service_of, services_of}
use Rattle.roman_library.specs.Refusals.{refusal_of}
use Rattle.roman_library.specs.declared.library.Service.{Service}
use Rattle.roman_library.specs.declared.refusal.Part.TheVariants as part
use Rattle.roman_library.specs.declared.refusal.Refusal.{Refusal}

-- the refusal of a whole list of the document, by the given rule
abbrev pub refused_list : List ℕ → Place → Kind → Refusal
refused_list document place rule = refusal_of document part.System (Refused rule place 0)

-- service i is refused after the services before it
abbrev pub BreaksService : List ℕ → ℕ → List NamedBeh → ℕ → List Service → Data → Refusal → Type 0
BreaksService document version catalogue i before d e = (why : PartError) × (service_of version catalogue before d ≡ Err why) × (e ≡ refusal_of document (part.Service i) why)

-- the services are the items of the list in order, each read after those before it; the refusal is that of the list, or that of the first
-- faulty item
pub record ReadsServices (document : List ℕ) (version : ℕ) (catalogue : List NamedBeh) : Type 0 where
  pub gives : (d : Data) (xs : List Service) → (services_of document version catalogue d ≡ Ok xs)
      ↔ IsListOf (codes "services") (λ n. n ≤ MAX_SERVICES) (λ before item x. service_of version catalogue before item ≡ Ok x) d xs
  pub refuses : (d : Data) (e : Refusal) → (services_of document version catalogue d ≡ Err e)
      ↔ BreaksList (codes "services") (refused_list document list.Services) (λ n. n ≤ MAX_SERVICES) (λ before item x. service_of version catalogue before item ≡ Ok x)
      (BreaksService document version catalogue) d e

-- the behaviours are the items of the list in order, each read after those before it; the refusal is that of the list, or that of the first faulty item
pub record ReadsBehaviours (texts : Texts) (document : List ℕ) (env : NamedEnv) : Type 0 where
  pub gives : (d : Data) (xs : List NamedBeh) → (catalogue_in texts document env d ≡ Ok xs)
      ↔ IsListOf (codes "behaviours") (λ n. n ≤ MAX_BEHAVIOURS) (λ before item x. behaviour_in texts document env before (length before) item ≡ Ok x) d xs
  pub refuses : (d : Data) (e : Refusal) → (catalogue_in texts document env d ≡ Err e)
      ↔ BreaksList (codes "behaviours") (refused_list document list.Behaviours) (λ n. n ≤ MAX_BEHAVIOURS) (λ before item x. behaviour_in texts document env before (length before) item ≡ Ok x)
      (λ i before item e. behaviour_in texts document env before i item ≡ Err e) d e

-- the lists of all documents are read by these properties
pub record DocumentListsAreRead : Type 0 where
  pub services : (document : List ℕ) (version : ℕ) (catalogue : List NamedBeh) → ReadsServices document version catalogue
  pub behaviours : (texts : Texts) (document : List ℕ) (env : NamedEnv) → ReadsBehaviours texts document env
