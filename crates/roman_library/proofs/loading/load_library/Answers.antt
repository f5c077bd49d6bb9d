-- The refusal of a part is the refusal of the document.
use Rattle.roman_library.proofs.Common.{length, refl, rules, subst, sym, ℕ, ◌<◌, ◌∙◌, ◌≤◌, err_from_is_err_and, MAX_BEHAVIOURS, MAX_CELLS, view, version_of, library_in, limit_of}
use Rattle.roman_library.specs.declared.refusal.Part.TheVariants as part
use Rattle.roman_library.proofs.LocatedLemmas.{located_ok, located_holds, stops_all}
use Rattle.roman_library.proofs.loading.load_library.Goals as goal

pub returns-in_err-catalogue-clause-meaning : goal.returns-in_err-catalogue-clause-meaning
unfolding library_in
returns-in_err-catalogue-clause-meaning g c = λ texts told.
    let p = err_from_is_err_and c.from_residual-in_err-catalogue.result c.from_residual-in_err-catalogue.ensures.1 in
    let versioned = located_ok (λ (x : ℕ). x) _ part.System _ (version_of (view c.args.v.now)) _ c.read_version.ensures c.in_ok-version.ensures in
    let limited = located_ok (λ (x : ℕ). x) _ part.System _ (limit_of (view c.args.v.now)) _ c.read_limit.ensures.limit c.in_ok-limit.ensures in
    rw (p.1, p.2, versioned, limited, c.in_ok-environment.ensures.environment texts told)
    (stops_all _ _ _ (c.in_err-catalogue.ensures.catalogue texts (c.in_ok-environment.ensures.shelf.texts ∙ told)))

pub returns-in_err-services-clause-meaning : goal.returns-in_err-services-clause-meaning
unfolding library_in
returns-in_err-services-clause-meaning g c = λ texts told.
    let p = err_from_is_err_and c.from_residual-in_err-services.result c.from_residual-in_err-services.ensures.1 in
    let versioned = located_ok (λ (x : ℕ). x) _ part.System _ (version_of (view c.args.v.now)) _ c.read_version.ensures c.in_ok-version.ensures in
    let limited = located_ok (λ (x : ℕ). x) _ part.System _ (limit_of (view c.args.v.now)) _ c.read_limit.ensures.limit c.in_ok-limit.ensures in
    let catalogue = c.in_ok-catalogue.ensures.catalogue texts (c.in_ok-environment.ensures.shelf.texts ∙ told) in
    rw (p.1, p.2, versioned, limited, c.in_ok-environment.ensures.environment texts told, catalogue, ← c.deref.ensures.value) (stops_all _ _ _ c.in_err-services.ensures.services.loads)

pub returns-in_err-parts-clause-meaning : goal.returns-in_err-parts-clause-meaning
unfolding library_in
returns-in_err-parts-clause-meaning g c = λ texts told.
    let p = err_from_is_err_and c.from_residual-in_err-parts.result c.from_residual-in_err-parts.ensures.1 in
    let versioned = located_ok (λ (x : ℕ). x) _ part.System _ (version_of (view c.args.v.now)) _ c.read_version.ensures c.in_ok-version.ensures in
    let limited = located_ok (λ (x : ℕ). x) _ part.System _ (limit_of (view c.args.v.now)) _ c.read_limit.ensures.limit c.in_ok-limit.ensures in
    let environment = c.in_ok-environment.ensures.shelf.texts ∙ told in
    let catalogue = c.in_ok-catalogue.ensures.catalogue texts environment in
    let services = rw c.deref.ensures.value at c.in_ok-services.ensures.services.loads in
    rw (p.1, p.2, versioned, limited, c.in_ok-environment.ensures.environment texts told, catalogue, services)
    (stops_all _ _ _ (c.in_err-parts.ensures.parts texts (c.in_ok-catalogue.ensures.shelf.texts ∙ environment)))

pub returns-clause-meaning : goal.returns-clause-meaning
unfolding library_in
returns-clause-meaning g c = λ texts told.
    let versioned = located_ok (λ (x : ℕ). x) _ part.System _ (version_of (view c.args.v.now)) _ c.read_version.ensures c.in_ok-version.ensures in
    let limited = located_ok (λ (x : ℕ). x) _ part.System _ (limit_of (view c.args.v.now)) _ c.read_limit.ensures.limit c.in_ok-limit.ensures in
    let environment = c.in_ok-environment.ensures.shelf.texts ∙ told in
    let catalogue = c.in_ok-catalogue.ensures.catalogue texts environment in
    let services = rw c.deref.ensures.value at c.in_ok-services.ensures.services.loads in
    let parts = c.in_ok-parts.ensures.parts texts (c.in_ok-catalogue.ensures.shelf.texts ∙ environment) in
    rw (versioned, limited, c.in_ok-environment.ensures.environment texts told, catalogue, services, parts) refl

pub returns-clause-known : goal.returns-clause-known
returns-clause-known g c =
    let is = c.in_ok-parts.ensures.known in
    let few : length c.in_ok-catalogue.catalogue.items ≤ MAX_BEHAVIOURS = search rules in
    record {
      environment = is.environment;
      catalogue = is.catalogue;
      few_behaviours = subst (λ (n : ℕ). n ≤ MAX_BEHAVIOURS) (sym is.count) few;
      services = is.services c.in_ok-services.services.items (rw c.deref.ensures.value at c.in_ok-services.ensures.known.known);
      few_services = search rules;
      target = is.target;
      limit = located_holds (λ (n : ℕ). (0 < n) × (n ≤ MAX_CELLS)) c.args.document.now part.System c.read_limit.result c.in_ok-limit.limit c.read_limit.ensures.within c.in_ok-limit.ensures;
    }
