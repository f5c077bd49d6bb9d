-- The place among the targets is the place among their names.
use Rattle.roman_library.proofs.Common.{rules, sym, tests, ◌∙◌, YieldsList-from_slice, position_from_yields_List, bytes_eq, target_name}
use Rattle.roman_library.proofs.LibraryLemmas.{place_of-map}
use Rattle.roman_library.proofs.names.place_of_target.Goals as goal

pub returns : goal.returns
returns c = record {
  place =
      position_from_yields_List (λ s. bytes_eq c.args.name.now (target_name s)) _ _ _ c.position.ensures.ran (YieldsList-from_slice c.args.targets.now cc) (λ x b q k. search (rules, tests))
      ∙ sym (place_of-map target_name c.args.targets.now c.args.name.now);
}
