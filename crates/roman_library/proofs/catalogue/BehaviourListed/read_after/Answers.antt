-- A behaviour that is read has the name that was checked, so it can be appended to those before it.
use Rattle.roman_library.proofs.Common.{None, map, rules, ◌≡◌, place_of, view, behaviour_name}
use Rattle.roman_library.proofs.LibraryLemmas.{behaviour_pushed}
use Rattle.roman_library.proofs.catalogue.BehaviourListed.read_after.Goals as goal

pub returns-clause-known : goal.returns-clause-known
returns-clause-known c =
    let free : place_of (map behaviour_name c.args.before.now) c.in_ok-name.name ≡ None = search rules in
    behaviour_pushed c.args.environment.now c.args.before.now (view c.args.v.now) c.in_ok-name.name c.read_behaviour.result c.read_behaviour.ensures.behaviour c.in_ok-name.ensures.name free
