use Rattle.roman_whatif.proofs.Common.{◌<◌, length, IfSome, sym, ap, subst, arith, Relation, failing_places}
use Rattle.roman_whatif.proofs.Lasting.{still_there, left_again, told_left, great_told}
use Rattle.roman_whatif.proofs.failing.without.Goals as goal

pub fail-left-requires-in-Some-clause-place : goal.fail-left-requires-in-Some-clause-place
fail-left-requires-in-Some-clause-place g c = (c.fail-between.ensures.within, grind (arith, still_there))

pub returns-in-None-clause-outlook : goal.returns-in-None-clause-outlook
returns-in-None-clause-outlook g c =
    told_left _ _ _ _ _ _ _ _ _ _ (ap (λ (r : Relation). r.joint) c.reset_to.ensures) (ap (failing_places c.args.first) (sym c.in-None.is)) c.fail-left.ensures c.now.ensures.outlook

pub returns-in-None-clause-great : goal.returns-in-None-clause-great
returns-in-None-clause-great g c =
    great_told _ _ _ _ _ _ _ _ _ _ (ap (λ (r : Relation). r.joint) c.reset_to.ensures) (ap (failing_places c.args.first) (sym c.in-None.is)) c.fail-left.ensures c.now.ensures.great

pub returns-in-Some-clause-outlook : goal.returns-in-Some-clause-outlook
returns-in-Some-clause-outlook g c =
    let second = subst (λ o. IfSome o (λ j. (c.args.first < j) × (j < length c.args.base.now.joint.seats))) c.in-Some.is c.requires.second in
    let left = left_again _ _ _ _ _ _ _ _ _ _ _ second.0 c.fail-between.ensures c.fail-left-in-Some.ensures in
    told_left _ _ _ _ _ _ _ _ _ _ (ap (λ (r : Relation). r.joint) c.reset_to.ensures) (ap (failing_places c.args.first) (sym c.in-Some.is)) left c.now-in-Some.ensures.outlook

pub returns-in-Some-clause-great : goal.returns-in-Some-clause-great
returns-in-Some-clause-great g c =
    let second = subst (λ o. IfSome o (λ j. (c.args.first < j) × (j < length c.args.base.now.joint.seats))) c.in-Some.is c.requires.second in
    let left = left_again _ _ _ _ _ _ _ _ _ _ _ second.0 c.fail-between.ensures c.fail-left-in-Some.ensures in
    great_told _ _ _ _ _ _ _ _ _ _ (ap (λ (r : Relation). r.joint) c.reset_to.ensures) (ap (failing_places c.args.first) (sym c.in-Some.is)) left c.now-in-Some.ensures.great
