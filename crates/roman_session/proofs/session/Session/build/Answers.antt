use Rattle.roman_session.proofs.Common.{ap, ◌∙◌, plain}
use Rattle.roman_session.proofs.BeginLemmas.{begun}
use Rattle.roman_session.proofs.session.Session.build.Goals as goal

pub invariant_of-result : goal.invariant_of-result
invariant_of-result g c =
    let made = c.in_ok-relation.ensures in
    (begun (plain c.args.library) c.in_ok-joint.field-0 c.in_ok-relation.relation _ _ c.in_ok-joint.ensures.seated c.requires.few_behaviours c.known.ensures made.joint (record { complete = made.complete; shaped = made.shaped; caps = made.caps })
    (c.start-target.ensures.start ∙ ap (λ t. t.beh.start) c.target.ensures) (c.start-env.ensures.start ∙ ap (λ e. e.env.start) c.environment.ensures)).session

pub returns-clause-start : goal.returns-clause-start
returns-clause-start g c =
    let made = c.in_ok-relation.ensures in
    (begun (plain c.args.library) c.in_ok-joint.field-0 c.in_ok-relation.relation _ _ c.in_ok-joint.ensures.seated c.requires.few_behaviours c.known.ensures made.joint (record { complete = made.complete; shaped = made.shaped; caps = made.caps })
    (c.start-target.ensures.start ∙ ap (λ t. t.beh.start) c.target.ensures) (c.start-env.ensures.start ∙ ap (λ e. e.env.start) c.environment.ensures)).start
