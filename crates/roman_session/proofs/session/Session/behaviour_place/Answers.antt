use Rattle.roman_session.proofs.Common.{arith, List, map, refl, ap, ◌∙◌, subst, rules, NamedBeh, NamedSys, Place, beh_name}
use Rattle.roman_session.proofs.NameLemmas.{place_there, no_name_there}
use Rattle.roman_session.proofs.SituationLemmas.{parts_shown}
use Rattle.roman_session.proofs.session.Session.behaviour_place.Goals as goal

pub returns-in-Some-clause-finds : goal.returns-in-Some-clause-finds
returns-in-Some-clause-finds c = grind (arith, parts_shown, place_there)

pub returns-in-None-clause-finds : goal.returns-in-None-clause-finds
returns-in-None-clause-finds c =
    let catalogue = c.catalogue.ensures ∙ ap (λ (n : NamedSys). n.catalogue) (parts_shown c.self.inside c.args.self.now c.self.view_is) in
    (refl, subst (λ (behs : List NamedBeh). Place (map beh_name behs) c.args.name.now → ⊥) catalogue (no_name_there (map beh_name c.catalogue.result.now) c.args.name.now (search rules)))
