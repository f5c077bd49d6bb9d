-- The lists of a document: their values, and their refusals.
use Rattle.roman_document_laws.proofs.Common.{◌≡◌, ℕ, ◌≤◌, inl, inr, List, length, codes, Result, Ok, Err, refl, arith, Data, Texts, NamedEnv, NamedBeh, counted_items, PartError, behaviour_in, catalogue_in, service_of, services_of, with_behaviour, with_service_read, located, refusal_of, Service, MAX_BEHAVIOURS, MAX_SERVICES, refused_list, BreaksService, ReadsServices, ReadsBehaviours, DocumentListsAreRead, Part, Refusal, same_ok, Refused, kind_of, Count, with_listed}
use Rattle.roman_document_laws.proofs.ListLemmas.{same_err, IsExact, exact_as, exact_same, AddsExactly, appends, IsListing, list_exact}
use Rattle.roman_parts.specs.declared.error.List.{List as Place}
use Rattle.roman_parts.specs.declared.error.List.TheVariants as list
use Rattle.roman_document_laws.proofs.PartReadLemmas.{counted_exact}
use Rattle.roman_library.specs.declared.refusal.Part.TheVariants as part

-- an exact reading stays exact with the document and the part in its refusal
exact_placed : {X : Type 0} (document : List ℕ) (part : Part) (r : Result X PartError) (Is : X → Type 0) (Breaks : PartError → Type 0) → IsExact r Is Breaks →
    IsExact (located document part r) Is (λ e. (why : PartError) × Breaks why × (e ≡ refusal_of document part why))
exact_placed document part (Ok x) Is Breaks exact = grind (arith, same_ok)
exact_placed document part (Err why) Is Breaks exact = grind (arith, same_err)

-- a list with at most `most` items
at_most : ℕ → ℕ → Type 0
at_most most n = n ≤ most

located_listing : (document name : List ℕ) (place : Place) (most : ℕ) (d : Data) → IsListing name (refused_list document place) (at_most most) d (located document part.System (counted_items place name 0 most d))
unfolding at_most
located_listing document name place most d =
    exact_as _ _ _ _ _ (exact_placed document part.System (counted_items place name 0 most d) _ _ (counted_exact place name 0 most (at_most most) (λ n. (grind arith, grind arith)) d))
    (λ items. (λ h. h, λ h. h)) (λ e. (
      grind arith,
      λ bad. elim bad [
        | inl (miss, misses, is) ↦ (Refused (kind_of miss) place 0, inl (miss, misses, refl), is)
        | inr (items, list, never, is) ↦ (Refused Count place 0, inr (items, list, never, refl), is)
      ],
    ))

module _ (document : List ℕ) (version : ℕ) (catalogue : List NamedBeh) where
  IsServiceItem : List Service → Data → Service → Type 0
  IsServiceItem before item x = service_of version catalogue before item ≡ Ok x

  services_added : AddsExactly (with_service_read document version catalogue) IsServiceItem (BreaksService document version catalogue)
  unfolding with_service_read IsServiceItem
  services_added = appends _ _ _ (λ i before d at. exact_placed document (part.Service i) (service_of version catalogue before d) _ _ (exact_same (service_of version catalogue before d)))

  services_read : ReadsServices document version catalogue
  unfolding services_of IsServiceItem at_most
  services_read =
      let exact = λ (d : Data). list_exact (with_service_read document version catalogue) IsServiceItem (BreaksService document version catalogue) services_added (codes "services") (refused_list document list.Services) (at_most MAX_SERVICES) d
      (located document part.System (counted_items list.Services (codes "services") 0 MAX_SERVICES d)) (located_listing document (codes "services") list.Services MAX_SERVICES d) in
      record { gives = λ d. (exact d).gives; refuses = λ d. (exact d).refuses }

module _ (texts : Texts) (document : List ℕ) (env : NamedEnv) where
  IsBehaviourItem : List NamedBeh → Data → NamedBeh → Type 0
  IsBehaviourItem before item x = behaviour_in texts document env before (length before) item ≡ Ok x

  BreaksBehaviour : ℕ → List NamedBeh → Data → Refusal → Type 0
  BreaksBehaviour i before item e = behaviour_in texts document env before i item ≡ Err e

  behaviours_added : AddsExactly (with_behaviour texts document env) IsBehaviourItem BreaksBehaviour
  unfolding with_listed IsBehaviourItem BreaksBehaviour
  behaviours_added = appends _ _ _ (grind (arith, IsExact, exact_same))

  behaviours_read : ReadsBehaviours texts document env
  unfolding catalogue_in IsBehaviourItem BreaksBehaviour at_most
  behaviours_read =
      let exact = λ (d : Data). list_exact (with_behaviour texts document env) IsBehaviourItem BreaksBehaviour behaviours_added (codes "behaviours") (refused_list document list.Behaviours) (at_most MAX_BEHAVIOURS) d
      (located document part.System (counted_items list.Behaviours (codes "behaviours") 0 MAX_BEHAVIOURS d)) (located_listing document (codes "behaviours") list.Behaviours MAX_BEHAVIOURS d) in
      record { gives = λ d. (exact d).gives; refuses = λ d. (exact d).refuses }

pub document_lists_read : DocumentListsAreRead
document_lists_read = record { services = services_read; behaviours = behaviours_read }
