-- The written value of a library means that library.
use Rattle.roman_document_laws.proofs.Common.{AreItems, AreServices, Bool, Data, HasNoRepeats, IfSome, IsFalse, IsIn, IsSayableBeh, IsSayableEnv, IsSayableTarget, IsService, IsTrue, LibrariesAreSaid, List, MAX_BEHAVIOURS, MAX_CELLS, MAX_SERVICES, NamedBeh, NamedEnv, Ok, Option, PlainLibrary, Service, Some, Texts, [], and_from, ap, arith, behaviour_in, behaviour_name, behaviour_place, behaviour_value, catalogue_in, catalogue_states, codes, environment_in, environment_value, file_of, from_push, frozen_of, get_in, in_contains, in_map, inl, is_name, le-leb, length, length-map, library_in, library_value, limit_in, limit_of, list_value, listed_in, map, map_push, member_of, new_behaviour_of, new_name_of, number, part_of, parts_in, place_in, place_value, located, refl, rests_of, service_name, service_of, service_value, services_of, slice_get, state_of, subst, suc, sym, target_in, there_is, unsigned, version_of, zero, ℕ, ◌++◌, ◌<◌, ◌==◌, ◌∷◌, ◌≡◌, ◌≤◌}
use Rattle.roman_parts.specs.declared.error.List.TheVariants as list
use Rattle.roman_document_laws.proofs.PartReadLemmas.{place_exact, absent_none}
use Rattle.roman_document_laws.proofs.PartWriterLemmas.{is_place, name_said, parts_said}
use Rattle.roman_library.specs.declared.refusal.Part.TheVariants as part
use Rattle.roman_document_laws.proofs.DocumentReadLemmas.{document_lists_read}

-- The environment and the target

pub environment_said : (texts : Texts) (document : List ℕ) (env : NamedEnv) (d : Data) → member_of d (codes "environment") ≡ Ok (environment_value env) → IsSayableEnv env → environment_in texts document d ≡ Ok env
unfolding environment_in part_of file_of
environment_said texts document env d at is = rw at (ap (located document part.Environment) (parts_said.environment env is))

target_said : (texts : Texts) (document : List ℕ) (library : PlainLibrary) → IsSayableEnv library.environment → IsSayableTarget library.environment library.target →
    target_in texts document library.environment (library_value library) ≡ Ok library.target
unfolding target_in part_of file_of
target_said texts document library env is = ap (located document (part.Target 0)) (parts_said.target library.environment library.target env is)

-- in version 2 the parts are the written ones
said_as_they_stand : (texts : Texts) (document : List ℕ) (library : PlainLibrary) → IsSayableEnv library.environment → IsSayableTarget library.environment library.target →
    parts_in texts document 2 library.environment library.catalogue (library_value library)
    ≡ Ok (record { environment = library.environment; catalogue = library.catalogue; target = library.target })
unfolding parts_in
said_as_they_stand texts document library env is = rw (target_said texts document library env is) refl

-- Behaviours

behaviour_said : (texts : Texts) (document : List ℕ) (env : NamedEnv) (before : List NamedBeh) (i : ℕ) (b : NamedBeh) → IsSayableEnv env → IsSayableBeh env b → (IsIn b.name (map behaviour_name before) → ⊥) →
    behaviour_in texts document env before i (behaviour_value env b) ≡ Ok b
unfolding listed_in part_of file_of new_behaviour_of new_name_of
behaviour_said texts document env before i b env_is is new =
    rw (name_said (behaviour_value env b) b.name refl is.name, absent_none (map behaviour_name before) b.name new) (ap (located document (part.Behaviour i)) (parts_said.behaviour env b env_is is))

are_behaviours : (texts : Texts) (document : List ℕ) (env : NamedEnv) (before xs : List NamedBeh) → IsSayableEnv env → ((b : NamedBeh) → IsIn b xs → IsSayableBeh env b) → HasNoRepeats (map behaviour_name xs) →
    ((b : NamedBeh) → IsIn b xs → IsIn b.name (map behaviour_name before) → ⊥) →
    AreItems (λ before item x. behaviour_in texts document env before (length before) item ≡ Ok x) before (map (behaviour_value env) xs) xs
are_behaviours texts document env before [] env_is is once new = tt
are_behaviours texts document env before (b ∷ bs) env_is is once new = grind (arith, behaviour_said, from_push, map_push, in_map, (are_behaviours texts document env (before ++ b ∷ []) bs env_is))

pub catalogue_said : (texts : Texts) (document : List ℕ) (env : NamedEnv) (catalogue : List NamedBeh) (d : Data) → member_of d (codes "behaviours") ≡ Ok (list_value (map (behaviour_value env) catalogue)) → IsSayableEnv env →
    ((b : NamedBeh) → IsIn b catalogue → IsSayableBeh env b) → HasNoRepeats (map behaviour_name catalogue) → length catalogue ≤ MAX_BEHAVIOURS → catalogue_in texts document env d ≡ Ok catalogue
catalogue_said texts document env catalogue d at env_is is once few = ((document_lists_read.behaviours texts document env).gives d catalogue).1 (record {
  items = map (behaviour_value env) catalogue;
  list = record { value = list_value (map (behaviour_value env) catalogue); there = at; list = refl };
  fits = omega (arith, few, length-map catalogue (behaviour_value env));
  are = are_behaviours texts document env [] catalogue env_is is once (λ b i none. none);
})

-- Services

states_there : (catalogue : List NamedBeh) (k : ℕ) (b : NamedBeh) → slice_get catalogue k ≡ Some b → catalogue_states catalogue k ≡ b.states
states_there [] k b h = cc
states_there (c ∷ cs) zero b h = let same : c ≡ b = cc in ap (λ (b : NamedBeh). b.states) same
states_there (c ∷ cs) (suc k) b h = states_there cs k b h

-- the parts of a service, read one by one
service_read : (version : ℕ) (catalogue : List NamedBeh) (before : List Service) (d : Data) (name : List ℕ) (place : ℕ) (b : NamedBeh) (state : ℕ) (frozen rests : Bool) → new_name_of (map service_name before) d ≡ Ok name → behaviour_place catalogue d ≡ Ok place →
    slice_get catalogue place ≡ Some b → state_of b d ≡ Ok state → frozen_of d ≡ Ok frozen → rests_of version d ≡ Ok rests →
    service_of version catalogue before d ≡ Ok (record { name = name; behaviour = place; state = state; frozen = frozen; rests = rests })
unfolding service_of
service_read version catalogue before d name place b state frozen rests h1 h2 h3 h4 h5 h6 = rw (h1, h2, h3, h4, h5, h6) refl

service_said : (version : ℕ) (env : NamedEnv) (catalogue : List NamedBeh) (before : List Service) (x : Service) → IsTrue (is_name x.name) → (IsIn x.name (map service_name before) → ⊥) → HasNoRepeats (map behaviour_name catalogue) → IsService catalogue x →
    ((b : NamedBeh) → IsIn b catalogue → IsSayableBeh env b) → IsFalse (version == 1) → service_of version catalogue before (service_value catalogue x) ≡ Ok x
unfolding new_name_of behaviour_place state_of frozen_of rests_of
service_said version env catalogue before x named new once is sayable later =
    let d = service_value catalogue x in
    let (b, there) = there_is catalogue x.behaviour is.behaviour in
    let less : x.state < b.beh.states = subst (λ (o : Option NamedBeh). IfSome o (λ b. x.state < b.beh.states)) there is.state in
    let can = sayable b (get_in catalogue x.behaviour b there) in
    let inside : x.behaviour < length (map behaviour_name catalogue) = omega (arith, is.behaviour, length-map catalogue behaviour_name) in
    let state : x.state < length b.states = omega (arith, less, can.state_count) in
    service_read version catalogue before d x.name x.behaviour b x.state x.frozen x.rests
    (rw (name_said d x.name refl named, absent_none (map service_name before) x.name new) refl)
    (((place_exact (map behaviour_name catalogue) list.Behaviour 0 (place_value (map behaviour_name catalogue) x.behaviour)).gives x.behaviour).1 (is_place (map behaviour_name catalogue) x.behaviour once inside))
    there
    (subst (λ (states : List (List ℕ)). place_in b.states list.State 0 (place_value states x.state) ≡ Ok x.state) (sym (states_there catalogue x.behaviour b there))
    (((place_exact b.states list.State 0 (place_value b.states x.state)).gives x.state).1 (is_place b.states x.state can.states.once state)))
    refl (rw later refl)

are_services : (version : ℕ) (env : NamedEnv) (catalogue : List NamedBeh) (before xs : List Service) → HasNoRepeats (map behaviour_name catalogue) → ((b : NamedBeh) → IsIn b catalogue → IsSayableBeh env b) → ((x : Service) → IsIn x xs → IsTrue (is_name x.name)) →
    ((x : Service) → IsIn x xs → IsService catalogue x) → HasNoRepeats (map service_name xs) → ((x : Service) → IsIn x xs → IsIn x.name (map service_name before) → ⊥) → IsFalse (version == 1) →
    AreItems (λ before item x. service_of version catalogue before item ≡ Ok x) before (map (service_value catalogue) xs) xs
are_services version env catalogue before [] once sayable named is own new later = tt
are_services version env catalogue before (x ∷ xs) once sayable named is own new later = grind (arith, (service_said version env catalogue before x (named x (inl refl)) (new x (inl refl)) once (is x (inl refl)) sayable later), from_push, map_push, in_map, (are_services version env catalogue (before ++ x ∷ []) xs once sayable))

pub services_said : (document : List ℕ) (version : ℕ) (env : NamedEnv) (catalogue : List NamedBeh) (services : List Service) (d : Data) → IsFalse (version == 1) → member_of d (codes "services") ≡ Ok (list_value (map (service_value catalogue) services)) →
    HasNoRepeats (map behaviour_name catalogue) → ((b : NamedBeh) → IsIn b catalogue → IsSayableBeh env b) → ((x : Service) → IsIn x services → IsTrue (is_name x.name)) → AreServices catalogue services → length services ≤ MAX_SERVICES →
    services_of document version catalogue d ≡ Ok services
services_said document version env catalogue services d later at once sayable named are few = ((document_lists_read.services document version catalogue).gives d services).1 (record {
  items = map (service_value catalogue) services;
  list = record { value = list_value (map (service_value catalogue) services); there = at; list = refl };
  fits = omega (arith, few, length-map services (service_value catalogue));
  are = are_services version env catalogue [] services once sayable named
      (λ x i. let (k, l, e) = in_contains services x i in subst (IsService catalogue) e (are.known k x l)) are.names (λ x i none. none) later;
})

-- The document

version_said : (library : PlainLibrary) → version_of (library_value library) ≡ Ok 2
unfolding version_of
version_said library = refl

pub limit_said : (limit : ℕ) (d : Data) → member_of d (codes "limit") ≡ Ok (number (unsigned limit)) → (0 < limit) × (limit ≤ MAX_CELLS) → limit_of d ≡ Ok limit
unfolding limit_of limit_in
limit_said limit d at (some, few) = rw at (grind (arith, and_from, le-leb))

pub libraries_said : LibrariesAreSaid
unfolding library_in
libraries_said texts document library is =
    let d = library_value library in
    rw (
      version_said library,
      limit_said library.limit d refl is.known.limit,
      environment_said texts document library.environment d refl is.environment,
      catalogue_said texts document library.environment library.catalogue d refl is.environment is.catalogue is.known.catalogue.names is.known.few_behaviours,
      services_said document 2 library.environment library.catalogue library.services d refl refl is.known.catalogue.names is.catalogue is.services is.known.services is.known.few_services,
      said_as_they_stand texts document library is.environment is.target,
    ) refl
