use Rattle.roman_opening.proofs.Common.{refl, Accepts, IsRelated, IsRelation, IfSome_then}
use Rattle.roman_opening.proofs.OpeningLemmas.{opens_none, relation_is}
use Rattle.roman_opening.proofs.opening.open_relation.Goals as goal

pub returns-in-Ok-build-clause-opens : goal.returns-in-Ok-build-clause-opens
returns-in-Ok-build-clause-opens g c =
    let built = c.in-Ok-build in
    let whole : IsRelation built.relation.joint built.relation.order = record { complete = built.ensures.complete; shaped = built.ensures.shaped; caps = built.ensures.caps } in
    record {
      holds = IfSome_then _ {Q = (λ texts. Accepts c.args.name.now texts (λ library. IsRelated library (record { relation = built.relation; start = c.in-Ok.seated.start })))} c.in-Ok.ensures.opens.holds (λ texts accepts.
          record { library = accepts.library; accepted = accepts.accepted; holds = relation_is accepts.library c.in-Ok.seated _ accepts.holds built.ensures.joint refl whole });
      same = c.in-Ok.ensures.opens.same;
    }

pub returns-in-Ok-build-clause-related : goal.returns-in-Ok-build-clause-related
returns-in-Ok-build-clause-related g c =
    let built = c.in-Ok-build in
    let whole : IsRelation built.relation.joint built.relation.order = record { complete = built.ensures.complete; shaped = built.ensures.shaped; caps = built.ensures.caps } in
    let (library, seated) = c.in-Ok.ensures.seated in
    (library, relation_is library c.in-Ok.seated _ seated built.ensures.joint refl whole)

pub returns-in-Err-build-clause-opens : goal.returns-in-Err-build-clause-opens
returns-in-Err-build-clause-opens g c = opens_none _ _ _ c.in-Ok.ensures.opens.same
