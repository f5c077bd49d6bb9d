use Rattle.roman_whatif.proofs.Common.{◌<◌, length, IfSome, sym, ap, ◌∙◌, subst, failing_places, left_of}
use Rattle.roman_whatif.proofs.losses.entry.Goals as goal

pub returns-in-None : goal.returns-in-None
returns-in-None c = λ parts p way all may. (all.each c.args.first may.one).alone ∙ ap (λ o. left_of parts p way (failing_places c.args.first o)) (sym c.in-None.is)

pub returns-in-Some : goal.returns-in-Some
returns-in-Some c = λ parts p way all may.
    let later : (c.args.first < c.in-Some.second) × (c.in-Some.second < length parts.seats) = subst (λ o. IfSome o (λ j. (c.args.first < j) × (j < length parts.seats))) c.in-Some.is may.later in
    (all.each c.in-Some.second later.1).two c.args.first later.0 ∙ ap (λ o. left_of parts p way (failing_places c.args.first o)) (sym c.in-Some.is)
