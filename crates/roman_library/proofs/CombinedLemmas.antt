-- The library of a document with several targets combines them.
use Rattle.roman_library.proofs.Common.{List, None, Ok, ap, arith, subst, sym, ℕ, ◌∙◌, ◌≡◌, Texts, PlainCombined, forbidding, combined_parts, Named, NamedBeh, NamedEnv, bind_ok, same_ok, Data, value_at, version_of, catalogue_in, combined_of, environment_in, library_in, library_of, parts_in, services_of, targets_in, PlainLibrary, AcceptedNameTargets, CombinesTargets, TargetsAreCombined}
use Rattle.roman_library.specs.declared.refusal.Part.TheVariants as part
use Rattle.roman_library.proofs.KnownLemmas.{located_is, environment_in_known, catalogue_known, services_known, targets_in_known}

-- the parts that were read of a document with several targets
record IsRead (texts : Texts) (document : List ℕ) (value : Data) (library : PlainLibrary) : Type 0 where
  env : NamedEnv
  catalogue : List NamedBeh
  targets : List Named
  is_env : environment_in texts document value ≡ Ok env
  is_catalogue : catalogue_in texts document env value ≡ Ok catalogue
  are_targets : targets_in texts document env value ≡ Ok targets
  are_services : services_of document 3 catalogue value ≡ Ok library.services
  is_made : combined_of env catalogue targets ≡ Ok (record { environment = library.environment; catalogue = library.catalogue; target = library.target })

is_read : (texts : Texts) (document : List ℕ) (value : Data) (library : PlainLibrary) → library_in texts document value ≡ Ok library → version_of value ≡ Ok 3 → IsRead texts document value library
unfolding library_in parts_in
is_read texts document value library h third = grind (arith, bind_ok, located_is, same_ok)

-- the result is made from the parts, and no rule forbids it
record IsMade (env : NamedEnv) (catalogue : List NamedBeh) (targets : List Named) (made : PlainCombined) : Type 0 where
  allowed : forbidding env targets ≡ None
  parts : combined_parts env catalogue targets ≡ made

made_is : (env : NamedEnv) (catalogue : List NamedBeh) (targets : List Named) (made : PlainCombined) → combined_of env catalogue targets ≡ Ok made → IsMade env catalogue targets made
unfolding combined_of
made_is env catalogue targets made h = grind (arith, same_ok)

combines : (texts : Texts) (document : List ℕ) (value : Data) (library : PlainLibrary) (r : IsRead texts document value library) →
    CombinesTargets (record { environment = r.env; catalogue = r.catalogue; targets = r.targets }) library
combines texts document value library r =
    let behaviours = (catalogue_known texts document r.env value r.catalogue r.is_catalogue).0 in
    let all = targets_in_known texts document r.env value r.targets r.are_targets in
    let made = made_is r.env r.catalogue r.targets _ r.is_made in
    record {
      known = (environment_in_known texts document value r.env r.is_env).known;
      behaviours = behaviours;
      targets = all.0;
      count = (all.1, all.2);
      allowed = made.allowed;
      parts = made.parts;
      services = (services_known document 3 r.env r.catalogue value library.services behaviours r.are_services).0;
    }

-- the document has one value
in_value : (texts : Texts) (document : List ℕ) (library : PlainLibrary) (value : Data) → library_of texts document ≡ Ok library → value_at texts document part.System ≡ Ok value →
    library_in texts document value ≡ Ok library
unfolding library_of
in_value texts document library value h is = grind (arith, bind_ok, same_ok)

pub accepted_name_targets : AcceptedNameTargets
accepted_name_targets texts document library value h is third =
    let r = is_read texts document value library (in_value texts document library value h is) third in (
      record { environment = r.env; catalogue = r.catalogue; targets = r.targets },
      record { value = value; reads = is; version = third; environment = r.is_env; catalogue = r.is_catalogue; targets = r.are_targets },
    )

pub targets_combined : TargetsAreCombined
targets_combined texts document library said h names =
    let value = names.value in
    let r = is_read texts document value library (in_value texts document library value h names.reads) names.version in
    let env : r.env ≡ said.environment = same_ok r.env said.environment (sym r.is_env ∙ names.environment) in
    let catalogue : r.catalogue ≡ said.catalogue =
    same_ok r.catalogue said.catalogue (sym r.is_catalogue ∙ ap (λ (env : NamedEnv). catalogue_in texts document env value) env ∙ names.catalogue) in
    let targets : r.targets ≡ said.targets = same_ok r.targets said.targets (sym r.are_targets ∙ ap (λ (env : NamedEnv). targets_in texts document env value) env ∙ names.targets) in
    subst (λ (xs : List Named). CombinesTargets (record { environment = said.environment; catalogue = said.catalogue; targets = xs }) library) targets
    (subst (λ (xs : List NamedBeh). CombinesTargets (record { environment = said.environment; catalogue = xs; targets = r.targets }) library) catalogue
    (subst (λ (x : NamedEnv). CombinesTargets (record { environment = x; catalogue = r.catalogue; targets = r.targets }) library) env (combines texts document value library r)))
