-- Each accepted document means a well-formed library.
use Rattle.roman_library.proofs.Common.{All, Bool, Err, IfSome, List, None, Ok, Option, Result, Some, [], ap, arith, codes, cond, false, length, length-append, map, refl, slice_get, subst, sym, true, ℕ, ◌++◌, ◌+◌, ◌<◌, ◌==◌, ◌∷◌, ◌≡◌, ◌≤◌, and_parts, All-get_or, All-push, get_or_from_slice_get, slice_get_within, Texts, MAX_BEHAVIOURS, MAX_CELLS, MAX_SERVICES, request_count, PlainCombined, forbidding, target_name, combined_parts, Named, IsEnvironment, IsOver-start, check_is, counted_are, environment_known, found_is, none_is, place_below, target_known, IsBehaviour, IsTarget, NamedBeh, NamedEnv, NamedTarget, environment_of, name_of, target_of, counted_items, found, looked, PartError, bind_ok, same_ok, ◌>>=◌, each_item, member_of, place_of, Data, Items, item, no_items, items_len, PartAt, ReadAfter, behaviour_place, frozen_of, part_of, rests_of, value_at, version_of, catalogue_in, combined_of, environment_in, library_in, library_of, limit_in, limit_of, listed_in, with_listed, named_target_of, new_behaviour_of, new_name_of, parts_in, service_of, with_service_read, services_of, state_of, target_in, targets_in, IsKnownLibrary, LibrariesAreKnown, ArePartsOf, AreServices, IsCatalogue, PlainLibrary, behaviour_name, service_name, located, Service, Part, Refusal}
use Rattle.roman_read.specs.declared.rules.Kind.TheVariants as kind
use Rattle.roman_parts.specs.declared.error.List.TheVariants as list
use Rattle.roman_library.proofs.TargetLemmas.{combined_parts_known}
use Rattle.roman_library.specs.declared.refusal.Part.TheVariants as part
use Rattle.roman_library.proofs.LibraryLemmas.{no_behaviours, behaviour_pushed, AreServices-push}

-- a reading that succeeds gives the same value with its document and part
pub located_is : {X : Type 0} (document : List ℕ) (part : Part) (r : Result X PartError) (x : X) → located document part r ≡ Ok x → r ≡ Ok x
located_is document part (Ok y) x h = ap Ok (same_ok y x h)
located_is document part (Err e) x h = cc

-- The catalogue

name_is_new : (before : List (List ℕ)) (d : Data) (name : List ℕ) → new_name_of before d ≡ Ok name → (name_of d ≡ Ok name) × (place_of before name ≡ None)
unfolding new_name_of
name_is_new before d name h = grind (arith, bind_ok, check_is, none_is)

-- a list of parts that has the property of the parts, with as many parts as items
record Grown {X : Type 0} (Keeps : List X → Type 0) (out : List X) (n : ℕ) : Type 0 where
  known : Keeps out
  count : length out ≡ n

module _ {X : Type 0} (add : ℕ → List X → Data → Result (List X) Refusal) (Keeps : List X → Type 0)
    (keeps : (i : ℕ) (before : List X) (d : Data) (more : List X) → add i before d ≡ Ok more → Keeps before → Grown Keeps more (length before + 1)) where
  parts_grow : (i : ℕ) (before : List X) (items : Items) (out : List X) → Keeps before → each_item add i before items ≡ Ok out → Grown Keeps out (length before + items_len items)
  unfolding each_item
  parts_grow i before no_items out are h =
      let same = same_ok before out h in
      record { known = subst Keeps same are; count = let e : length before ≡ length out = ap length same in omega arith }
  parts_grow i before (item d ds) out are h =
      let (more, e, h1) = bind_ok (add i before d) _ out h in
      let one = keeps i before d more e are in
      let rest = parts_grow (i + 1) more ds out one.known h1 in
      record { known = rest.known; count = omega (arith, rest.count, one.count) }

-- a part of a list keeps the property of the parts before it, and is one more
listed_grow : {X : Type 0} (at : PartAt) (read : ReadAfter X) (env : NamedEnv) (Keeps : List X → Type 0) (keeps : (before : List X) (d : Data) (x : X) → read env before d ≡ Ok x → Keeps before → Keeps (before ++ x ∷ []))
    (texts : Texts) (document : List ℕ) (i : ℕ) (before : List X) (d : Data) (more : List X) → with_listed at read texts document env i before d ≡ Ok more → Keeps before → Grown Keeps more (length before + 1)
unfolding with_listed listed_in
listed_grow at read env Keeps keeps texts document i before d more h are = grind (arith, bind_ok, located_is, same_ok, length-append, keeps before)

behaviours_grow : (env : NamedEnv) (before : List NamedBeh) (d : Data) (b : NamedBeh) → new_behaviour_of env before d ≡ Ok b → IsCatalogue env before → IsCatalogue env (before ++ b ∷ [])
unfolding new_behaviour_of
behaviours_grow env before d b h are =
    let (name, e, h1) = bind_ok (new_name_of (map behaviour_name before) d) _ b h in
    let (named, free) = name_is_new (map behaviour_name before) d name e in
    behaviour_pushed env before d name (Ok b) h1 named free are

pub catalogue_known : (texts : Texts) (document : List ℕ) (env : NamedEnv) (d : Data) (out : List NamedBeh) → catalogue_in texts document env d ≡ Ok out → IsCatalogue env out × (length out ≤ MAX_BEHAVIOURS)
unfolding catalogue_in
catalogue_known texts document env d out h =
    let (items, e, h1) = bind_ok (located document part.System (counted_items list.Behaviours (codes "behaviours") 0 MAX_BEHAVIOURS d)) _ out h in
    let few = counted_are list.Behaviours (codes "behaviours") 0 MAX_BEHAVIOURS d items (located_is document part.System (counted_items list.Behaviours (codes "behaviours") 0 MAX_BEHAVIOURS d) items e) in
    let all = parts_grow _ (IsCatalogue env) (listed_grow part.Behaviour new_behaviour_of env (IsCatalogue env) (behaviours_grow env) texts document) 0 [] items out (no_behaviours env) h1 in
    (all.known, omega (arith, all.count, few.few))

-- the target of a document
target_in_known : (texts : Texts) (document : List ℕ) (env : NamedEnv) (d : Data) (t : NamedTarget) → target_in texts document env d ≡ Ok t → IsTarget env t
unfolding target_in
target_in_known texts document env d t h =
    let (member, e, h1) = bind_ok (located document (part.Target 0) (looked list.Whole 0 (member_of d (codes "target")))) _ t h in
    let (p, e1, h2) = bind_ok (part_of texts document (part.Target 0) member) _ t h1 in
    target_known env p.1 t (located_is p.0 (part.Target 0) (target_of env p.1) t h2)

-- the environment of a document
pub environment_in_known : (texts : Texts) (document : List ℕ) (d : Data) (env : NamedEnv) → environment_in texts document d ≡ Ok env → IsEnvironment env
unfolding environment_in
environment_in_known texts document d env h =
    let (member, e, h1) = bind_ok (located document part.Environment (looked list.Whole 0 (member_of d (codes "environment")))) _ env h in
    let (p, e1, h2) = bind_ok (part_of texts document part.Environment member) _ env h1 in
    environment_known p.1 env (located_is p.0 part.Environment (environment_of p.1) env h2)

-- Services

-- the behaviour at a place of the catalogue
pub behaviour_there : (env : NamedEnv) (catalogue : List NamedBeh) (k : ℕ) (b : NamedBeh) → IsCatalogue env catalogue → slice_get catalogue k ≡ Some b → IsBehaviour env b
behaviour_there env catalogue k b are there =
    subst (IsBehaviour env) (get_or_from_slice_get catalogue k b b there) (All-get_or (IsBehaviour env) catalogue k b (slice_get_within catalogue k b there) are.known)

state_below : (env : NamedEnv) (b : NamedBeh) (d : Data) (state : ℕ) → IsBehaviour env b → state_of b d ≡ Ok state → state < b.beh.states
unfolding state_of
state_below env b d state is h = grind (arith, IsOver-start, place_below, same_ok)

-- a service that was read can be appended to those before it
service_known : (version : ℕ) (env : NamedEnv) (catalogue : List NamedBeh) (before : List Service) (d : Data) (x : Service) → IsCatalogue env catalogue → service_of version catalogue before d ≡ Ok x →
    AreServices catalogue before → AreServices catalogue (before ++ x ∷ [])
unfolding service_of
service_known version env catalogue before d x are h old =
    let (name, e, h1) = bind_ok (new_name_of (map service_name before) d) _ x h in
    let (place, e1, h2) = bind_ok (behaviour_place catalogue d) _ x h1 in
    let (b, e2, h3) = bind_ok (found kind.Unknown list.Behaviour 0 (slice_get catalogue place)) _ x h2 in
    let (state, e3, h4) = bind_ok (state_of b d) _ x h3 in
    let (frozen, e4, h5) = bind_ok (frozen_of d) _ x h4 in
    let (rests, e5, h6) = bind_ok (rests_of version d) _ x h5 in
    let there : slice_get catalogue place ≡ Some b = found_is kind.Unknown list.Behaviour 0 (slice_get catalogue place) b e2 in
    subst (λ (s : Service). AreServices catalogue (before ++ s ∷ [])) (same_ok _ x h6) (AreServices-push catalogue before _ _ old (record {
      behaviour = slice_get_within catalogue place b there;
      state = subst (λ (o : Option NamedBeh). IfSome o (λ behaviour. state < behaviour.beh.states)) (sym there) (state_below env b d state (behaviour_there env catalogue place b are there) e3);
    }) (name_is_new (map service_name before) d name e).1 refl)

services_grow : (document : List ℕ) (version : ℕ) (env : NamedEnv) (catalogue : List NamedBeh) → IsCatalogue env catalogue → (i : ℕ) (before : List Service) (d : Data) (more : List Service) →
    with_service_read document version catalogue i before d ≡ Ok more → AreServices catalogue before → Grown (AreServices catalogue) more (length before + 1)
unfolding with_service_read
services_grow document version env catalogue behaviours i before d more h are = grind (arith, bind_ok, located_is, same_ok, length-append, service_known version env catalogue before d)

no_services : (catalogue : List NamedBeh) → AreServices catalogue []
no_services catalogue = record { known = λ d i l. absurd (omega (arith, l)); names = tt }

pub services_known : (document : List ℕ) (version : ℕ) (env : NamedEnv) (catalogue : List NamedBeh) (d : Data) (out : List Service) → IsCatalogue env catalogue → services_of document version catalogue d ≡ Ok out →
    AreServices catalogue out × (length out ≤ MAX_SERVICES)
unfolding services_of
services_known document version env catalogue d out behaviours h =
    let (items, e, h1) = bind_ok (located document part.System (counted_items list.Services (codes "services") 0 MAX_SERVICES d)) _ out h in
    let few = counted_are list.Services (codes "services") 0 MAX_SERVICES d items (located_is document part.System (counted_items list.Services (codes "services") 0 MAX_SERVICES d) items e) in
    let all = parts_grow _ (AreServices catalogue) (services_grow document version env catalogue behaviours) 0 [] items out (no_services catalogue) h1 in
    (all.known, omega (arith, all.count, few.few))

-- The limit

limit_in_known : (d : Data) (limit : ℕ) → limit_in d ≡ Ok limit → (0 < limit) × (limit ≤ MAX_CELLS)
unfolding limit_in
limit_in_known d limit h = grind (arith, and_parts, bind_ok, check_is)

limit_known : (d : Data) (limit : ℕ) → limit_of d ≡ Ok limit → (0 < limit) × (limit ≤ MAX_CELLS)
unfolding limit_of
limit_known d limit h = grind (arith, limit_in_known, same_ok)

-- Several targets

targets_grow : (env : NamedEnv) (before : List Named) (d : Data) (named : Named) → named_target_of env before d ≡ Ok named → All (λ (n : Named). IsTarget env n.target) before →
    All (λ (n : Named). IsTarget env n.target) (before ++ named ∷ [])
unfolding named_target_of
targets_grow env before d named h are =
    let (name, e, h1) = bind_ok (new_name_of (map target_name before) d) _ named h in
    let (target, e1, h2) = bind_ok (target_of env d) _ named h1 in
    All-push (λ (n : Named). IsTarget env n.target) before named are (subst (λ (n : Named). IsTarget env n.target) (same_ok _ named h2) (target_known env d target e1))

pub targets_in_known : (texts : Texts) (document : List ℕ) (env : NamedEnv) (d : Data) (out : List Named) → targets_in texts document env d ≡ Ok out →
    All (λ named. IsTarget env named.target) out × (2 ≤ length out) × (length out ≤ 4)
unfolding targets_in
targets_in_known texts document env d out h =
    let (items, e, h1) = bind_ok (located document part.System (counted_items list.Targets (codes "targets") 2 4 d)) _ out h in
    let few = counted_are list.Targets (codes "targets") 2 4 d items (located_is document part.System (counted_items list.Targets (codes "targets") 2 4 d) items e) in
    let all = parts_grow _ (All (λ (n : Named). IsTarget env n.target)) (listed_grow part.Target named_target_of env (All (λ (n : Named). IsTarget env n.target)) (targets_grow env) texts document) 0 [] items out (λ k x l. absurd (omega (arith, l))) h1 in
    (all.known, omega (arith, all.count, few.some), omega (arith, all.count, few.few))

-- The parts

-- the parts are those of a library, and each state and action of the environment has a name
record AreNamedParts (catalogue : List NamedBeh) (made : PlainCombined) : Type 0 where
  parts : ArePartsOf catalogue made
  states : length made.environment.states ≡ made.environment.env.states
  actions : length made.environment.actions ≡ made.environment.env.actions

combined_named : (env : NamedEnv) (catalogue : List NamedBeh) (targets : List Named) → IsEnvironment env → IsCatalogue env catalogue → All (λ named. IsTarget env named.target) targets →
    forbidding env targets ≡ None → AreNamedParts catalogue (combined_parts env catalogue targets)
unfolding combined_parts
combined_named env catalogue targets world are all allowed = record {
  parts = combined_parts_known env catalogue targets world.known are all allowed;
  states = world.states;
  actions = request_count env targets;
}

combined_of_known : (env : NamedEnv) (catalogue : List NamedBeh) (targets : List Named) (made : PlainCombined) → IsEnvironment env → IsCatalogue env catalogue → All (λ named. IsTarget env named.target) targets →
    combined_of env catalogue targets ≡ Ok made → AreNamedParts catalogue made
unfolding combined_of
combined_of_known env catalogue targets made world are all h = grind (arith, combined_named, same_ok)

parts_known : (texts : Texts) (document : List ℕ) (version : ℕ) (env : NamedEnv) (catalogue : List NamedBeh) (d : Data) (made : PlainCombined) → IsEnvironment env → IsCatalogue env catalogue →
    parts_in texts document version env catalogue d ≡ Ok made → AreNamedParts catalogue made
unfolding parts_in
parts_known texts document version env catalogue d made world are h = by (version == 3) h
  where
    by : (several : Bool) → cond several (targets_in texts document env d >>= (λ targets. located document part.System (combined_of env catalogue targets)))
        (target_in texts document env d >>= (λ target. Ok (record { environment = env; catalogue = catalogue; target = target }))) ≡ Ok made → AreNamedParts catalogue made
    by true g =
        let (targets, e, g1) = bind_ok (targets_in texts document env d) _ made g in
        combined_of_known env catalogue targets made world are (targets_in_known texts document env d targets e).0 (located_is document part.System (combined_of env catalogue targets) made g1)
    by false g =
        let (target, e, g1) = bind_ok (target_in texts document env d) _ made g in
        subst (AreNamedParts catalogue) (same_ok _ made g1) (record {
          parts = record { environment = world.known; catalogue = are; count = refl; services = λ services all. all; target = target_in_known texts document env d target e };
          states = world.states;
          actions = world.actions;
        })

-- The document

library_in_known : (texts : Texts) (document : List ℕ) (d : Data) (library : PlainLibrary) → library_in texts document d ≡ Ok library → IsKnownLibrary library
unfolding library_in
library_in_known texts document d library h =
    let (version, e, h1) = bind_ok (located document part.System (version_of d)) _ library h in
    let (limit, e1, h2) = bind_ok (located document part.System (limit_of d)) _ library h1 in
    let (env, e2, h3) = bind_ok (environment_in texts document d) _ library h2 in
    let (catalogue, e3, h4) = bind_ok (catalogue_in texts document env d) _ library h3 in
    let (services, e4, h5) = bind_ok (services_of document version catalogue d) _ library h4 in
    let (made, e5, h6) = bind_ok (parts_in texts document version env catalogue d) _ library h5 in
    let environment = environment_in_known texts document d env e2 in
    let behaviours = catalogue_known texts document env d catalogue e3 in
    let all = services_known document version env catalogue d services behaviours.0 e4 in
    let is = parts_known texts document version env catalogue d made environment behaviours.0 e5 in
    subst IsKnownLibrary (same_ok _ library h6) (record {
      known = record {
        environment = is.parts.environment;
        catalogue = is.parts.catalogue;
        few_behaviours = subst (λ n. n ≤ MAX_BEHAVIOURS) (sym is.parts.count) behaviours.1;
        services = is.parts.services services all.0;
        few_services = all.1;
        target = is.parts.target;
        limit = limit_known d limit (located_is document part.System (limit_of d) limit e1);
      };
      states = is.states;
      actions = is.actions;
    })

pub libraries_known : LibrariesAreKnown
unfolding library_of
libraries_known texts document library h =
    let (d, e, h1) = bind_ok (value_at texts document part.System) _ library h in
    library_in_known texts document d library h1
