-- The place among the behaviours is the place among their names.
use Rattle.roman_library.proofs.Common.{rules, sym, tests, ◌∙◌, YieldsList-from_slice, position_from_yields_List, bytes_eq, behaviour_name}
use Rattle.roman_library.proofs.LibraryLemmas.{place_of-map}
use Rattle.roman_library.proofs.names.place_of_behaviour.Goals as goal

pub returns-clause-place : goal.returns-clause-place
returns-clause-place c =
    position_from_yields_List (λ b. bytes_eq c.args.name.now (behaviour_name b)) _ _ _ c.position.ensures.ran (YieldsList-from_slice c.args.catalogue.now cc) (λ x b q k. search (rules, tests))
    ∙ sym (place_of-map behaviour_name c.args.catalogue.now c.args.name.now)
