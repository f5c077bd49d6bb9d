-- The place among the services is the place among their names.
use Rattle.roman_library.proofs.Common.{rules, sym, tests, ◌∙◌, YieldsList-from_slice, position_from_yields_List, bytes_eq, service_name}
use Rattle.roman_library.proofs.LibraryLemmas.{place_of-map}
use Rattle.roman_library.proofs.names.place_of_service.Goals as goal

pub returns : goal.returns
returns c = record {
  place =
      position_from_yields_List (λ s. bytes_eq c.args.name.now (service_name s)) _ _ _ c.position.ensures.ran (YieldsList-from_slice c.args.services.now cc) (λ x b q k. search (rules, tests))
      ∙ sym (place_of-map service_name c.args.services.now c.args.name.now);
}
