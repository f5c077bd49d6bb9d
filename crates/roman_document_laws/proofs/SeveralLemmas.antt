-- Documents with several targets: parts that were read can be stated, and the written value means the library that combines the targets.
use Rattle.roman_document_laws.proofs.Common.{AcceptedSeveralCanBeSaid, AreItems, AreSayable, Data, Err, HasNoRepeats, IsIn, IsSayableEnv, IsSayableTarget, IsTrue, List, MAX_BEHAVIOURS, Named, NamedBeh, NamedEnv, None, Ok, PlainCombined, PlainLibrary, PlainTargets, Refusal, Service, SeveralAreSaid, Texts, [], ap, arith, as_object, bind_ok, check, check_is, codes, combined_behaviour, combined_of, combined_parts, counted_items, each_item, file_of, forbidding, from_map, from_push, in_append_left, in_map, in_push, inl, inr, is_name, is_none, is_some, items_of, length, length-map, libraries_known, library_in, list_value, listed_in, map, map_push, member_of, name_of, named_target_of, named_target_value, new_name_of, none_absent, none_is, part_of, parts_in, place_of, located, located_is, refl, requests_in, same_ok, several_value, subst, sym, target_name, target_of, with_target, targets_combined, targets_in, version_of, ℕ, ◌++◌, ◌↔◌, ◌∷◌, ◌≡◌, ◌≤◌, with_listed}
use Rattle.roman_read.specs.declared.rules.Kind.TheVariants as kind
use Rattle.roman_parts.specs.declared.error.List.TheVariants as list
use Rattle.roman_library.specs.declared.refusal.Part.TheVariants as part
use Rattle.roman_document_laws.proofs.ListLemmas.{AddsExactly, IsExact, all_exact, appends, exact_same, items_listed, listed, listed_items}
use Rattle.roman_document_laws.proofs.PartReadLemmas.{absent_none, counted_exact}
use Rattle.roman_document_laws.proofs.PartWriterLemmas.{name_said, target_said_by}
use Rattle.roman_document_laws.proofs.DocumentWriterLemmas.{catalogue_said, environment_said, limit_said, services_said}
use Rattle.roman_document_laws.proofs.AcceptedLemmas.{accepted_named, behaviours_can, environment_can, is_named, items_each, target_can}

-- Items that are targets

module _ (texts : Texts) (document : List ℕ) (env : NamedEnv) where
  pub IsTargetItem : List Named → Data → Named → Type 0
  IsTargetItem before d x = listed_in part.Target named_target_of texts document env before (length before) d ≡ Ok x

  BreaksTarget : ℕ → List Named → Data → Refusal → Type 0
  BreaksTarget i before d e = listed_in part.Target named_target_of texts document env before i d ≡ Err e

  targets_added : AddsExactly (with_target texts document env) IsTargetItem BreaksTarget
  unfolding with_listed IsTargetItem BreaksTarget
  targets_added = appends _ _ _ (grind (arith, IsExact, exact_same))

  pub targets_each : (ds : List Data) (xs : List Named) → (each_item (with_target texts document env) 0 [] (items_of ds) ≡ Ok xs) ↔ AreItems IsTargetItem [] ds xs
  targets_each ds xs = (all_exact (with_target texts document env) IsTargetItem BreaksTarget targets_added ds).gives xs

  -- Targets that are written

  target_item_said : (before : List Named) (named : Named) → IsSayableEnv env → IsTrue (is_name named.name) × IsSayableTarget env named.target → (IsIn named.name (map target_name before) → ⊥) →
      IsTargetItem before (named_target_value env named) named
  unfolding IsTargetItem listed_in part_of file_of named_target_of new_name_of
  target_item_said before named env_is (good, is) new =
      rw (
        name_said (named_target_value env named) named.name refl good,
        absent_none (map target_name before) named.name new,
        target_said_by env named.target (named_target_value env named) refl refl refl refl refl env_is is,
      ) refl

  are_targets : (before xs : List Named) → IsSayableEnv env → ((named : Named) → IsIn named xs → IsTrue (is_name named.name) × IsSayableTarget env named.target) → HasNoRepeats (map target_name xs) →
      ((named : Named) → IsIn named xs → IsIn named.name (map target_name before) → ⊥) → AreItems IsTargetItem before (map (named_target_value env) xs) xs
  are_targets before [] env_is is once new = tt
  are_targets before (x ∷ xs) env_is is once new = grind (arith, target_item_said, from_push, map_push, in_map, (are_targets (before ++ x ∷ []) xs env_is))

  pub targets_said : (targets : List Named) (d : Data) → member_of d (codes "targets") ≡ Ok (list_value (map (named_target_value env) targets)) → IsSayableEnv env →
      ((named : Named) → IsIn named targets → IsTrue (is_name named.name) × IsSayableTarget env named.target) → HasNoRepeats (map target_name targets) → (2 ≤ length targets) × (length targets ≤ 4) →
      targets_in texts document env d ≡ Ok targets
  unfolding targets_in
  targets_said targets d at env_is is once (some, few) =
      let ds = map (named_target_value env) targets in
      let many : length ds ≡ length targets = length-map targets (named_target_value env) in
      let counted : counted_items list.Targets (codes "targets") 2 4 d ≡ Ok (items_of ds) =
      ((counted_exact list.Targets (codes "targets") 2 4 (λ n. (2 ≤ n) × (n ≤ 4)) (λ n. (λ h. h, λ h. h)) d).gives (items_of ds)).1 (rw listed_items (record { value = list_value ds; there = at; list = refl }, (omega (arith, some, many), omega (arith, few, many)))) in
      rw counted ((targets_each ds targets).1 (are_targets [] targets env_is is once (λ x i none. none)))

  -- Targets that were read

  target_item_can : (before : List Named) (d : Data) (x : Named) → IsTargetItem before d x → (IsTrue (is_name x.name) × IsSayableTarget env x.target) × (IsIn x.name (map target_name before) → ⊥)
  unfolding IsTargetItem listed_in named_target_of new_name_of
  target_item_can before d x h =
      let (p, e, h1) = bind_ok (part_of texts document (part.Target (length before)) d) _ x h in
      let (name, e1, h2) = bind_ok (new_name_of (map target_name before) p.1) _ x (located_is p.0 (part.Target (length before)) (named_target_of env before p.1) x h1) in
      let (target, e2, h3) = bind_ok (target_of env p.1) _ x h2 in
      let (whole, e3, h4) = bind_ok (check (is_some (as_object p.1)) kind.Form list.Whole 0 p.1) _ name e1 in
      let (raw, e4, h5) = bind_ok (name_of whole) _ name h4 in
      let (free, same) = check_is (is_none (place_of (map target_name before) raw)) kind.Repeated list.Name 0 raw name h5 in
      subst (λ (x : Named). (IsTrue (is_name x.name) × IsSayableTarget env x.target) × (IsIn x.name (map target_name before) → ⊥)) (same_ok _ x h3) (
        (subst (λ (n : List ℕ). IsTrue (is_name n)) same (is_named whole raw e4), target_can env p.1 target e2),
        subst (λ (n : List ℕ). IsIn n (map target_name before) → ⊥) same (none_absent (map target_name before) raw (none_is _ free)),
      )

  new_after : (before : List Named) (ds : List Data) (xs : List Named) → AreItems IsTargetItem before ds xs → HasNoRepeats (map target_name xs) × ((x : Named) → IsIn x xs → IsIn x.name (map target_name before) → ⊥)
  new_after before [] [] are = (tt, λ x i. absurd i)
  new_after before (d ∷ ds) (x ∷ xs) are =
      let (once, apart) = new_after (before ++ x ∷ []) ds xs are.1 in
      let later : (y : Named) → IsIn y xs → IsIn y.name (map target_name before ++ x.name ∷ []) → ⊥ = λ y i at. apart y i (subst (IsIn y.name) (sym (map_push target_name before x)) at) in (
        (λ i. let (y, j, e) = from_map target_name x.name xs i in later y j (subst (λ (n : List ℕ). IsIn n (map target_name before ++ x.name ∷ [])) e (in_push x.name (map target_name before))), once),
        λ y i at. elim i [
          | inl e ↦ (target_item_can before d x are.0).1 (subst (λ (z : Named). IsIn z.name (map target_name before)) e at)
          | inr j ↦ later y j (in_append_left y.name (map target_name before) (x.name ∷ []) at)
        ],
      )
  new_after _ _ _ are = absurd are

  pub targets_can : (targets : List Named) (d : Data) → targets_in texts document env d ≡ Ok targets → ((named : Named) → IsIn named targets → IsTrue (is_name named.name) × IsSayableTarget env named.target) × HasNoRepeats (map target_name targets)
  unfolding targets_in
  targets_can targets d h =
      let (items, e, h1) = bind_ok (located document part.System (counted_items list.Targets (codes "targets") 2 4 d)) _ targets h in
      let are = (targets_each (listed items) targets).0 (rw items_listed h1) in (
        items_each IsTargetItem (λ x. IsTrue (is_name x.name) × IsSayableTarget env x.target) (λ before d x is. (target_item_can before d x is).0) [] (listed items) targets are,
        (new_after [] (listed items) targets are).0,
      )

-- The document

combined_said : (env : NamedEnv) (catalogue : List NamedBeh) (targets : List Named) → forbidding env targets ≡ None → combined_of env catalogue targets ≡ Ok (combined_parts env catalogue targets)
unfolding combined_of
combined_said env catalogue targets allowed = rw allowed refl

said_together : (texts : Texts) (document : List ℕ) (said : PlainTargets) (services : List Service) (limit : ℕ) → AreSayable said services limit →
    parts_in texts document 3 said.environment said.catalogue (several_value said services limit) ≡ Ok (combined_parts said.environment said.catalogue said.targets)
unfolding parts_in
said_together texts document said services limit is =
    rw (targets_said texts document said.environment said.targets (several_value said services limit) refl is.environment is.targets is.names is.count, combined_said said.environment said.catalogue said.targets is.allowed) refl

version_three : (said : PlainTargets) (services : List Service) (limit : ℕ) → version_of (several_value said services limit) ≡ Ok 3
unfolding version_of
version_three said services limit = refl

pub several_said : SeveralAreSaid
unfolding library_in
several_said texts document said services limit is =
    let d = several_value said services limit in
    rw (
      version_three said services limit,
      limit_said limit d refl is.limit,
      environment_said texts document said.environment d refl is.environment,
      catalogue_said texts document said.environment said.catalogue d refl is.environment is.catalogue is.behaviours is.few_behaviours,
      services_said document 3 said.environment said.catalogue services d refl refl is.behaviours is.catalogue is.named is.services is.few_services,
      said_together texts document said services limit is,
    ) refl

few_parts : (env : NamedEnv) (catalogue : List NamedBeh) (targets : List Named) (library : PlainLibrary) →
    combined_parts env catalogue targets ≡ record { environment = library.environment; catalogue = library.catalogue; target = library.target } → length library.catalogue ≤ MAX_BEHAVIOURS → length catalogue ≤ MAX_BEHAVIOURS
unfolding combined_parts
few_parts env catalogue targets library parts few =
    let same : map (combined_behaviour env (requests_in env targets)) catalogue ≡ library.catalogue = ap (λ (m : PlainCombined). m.catalogue) parts in
    omega (arith, few, ap length same, length-map catalogue (combined_behaviour env (requests_in env targets)))

-- a document can state the parts and targets that an accepted document with several targets names
pub accepted_several : AcceptedSeveralCanBeSaid
accepted_several texts document library said h names =
    let is = targets_combined texts document library said h names in
    let known = (libraries_known texts document library h).known in
    let targets = targets_can texts document said.environment said.targets names.value names.targets in
    record {
      environment = environment_can texts document names.value said.environment names.environment;
      catalogue = behaviours_can texts document said.environment names.value said.catalogue names.catalogue;
      behaviours = is.behaviours.names;
      few_behaviours = few_parts said.environment said.catalogue said.targets library is.parts known.few_behaviours;
      targets = targets.0;
      names = targets.1;
      count = is.count;
      allowed = is.allowed;
      services = is.services;
      few_services = known.few_services;
      named = accepted_named texts document library h;
      limit = known.limit;
    }
