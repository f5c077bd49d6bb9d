use Rattle.roman_multi.proofs.Common.{◌≡◌, ap, ◌∙◌, length, refl, IfOk-weaker, named_env, combined_environment}
use Rattle.roman_multi.proofs.TripleLemmas.{made_env_is}
use Rattle.roman_multi.proofs.environment.combine_environment.Goals as goal

pub returns : goal.returns
returns c =
    let kept = c.in_ok-states.ensures.same ∙ c.states.ensures.names in
    let env = made_env_is _ _ _ _ _ _ c.states.ensures.known (ap length kept ∙ c.states.ensures.count) c.requires.names c.start.ensures.start (c.deref.ensures.value ∙ c.in_ok-steps.ensures) in
    let same : named_env c.in_ok-states.states c.args.names c.start.result c.deref.result.now ≡ combined_environment c.args.merge.now.env.now c.args.merge.now.requests.now c.args.names = rw (env, kept) refl in
    IfOk-weaker c.from_lists.result _ _ (λ made is. is ∙ same) c.from_lists.ensures
