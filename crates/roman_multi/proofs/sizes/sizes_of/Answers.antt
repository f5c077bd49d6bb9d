use Rattle.roman_multi.proofs.Common.{◌≡◌, ◌++◌, ◌∷◌, [], ap, ◌∙◌, sym, length, get_or, take, target_sizes, IsTarget, machines, Named, All-more}
use Rattle.roman_multi.proofs.KnownLemmas.{sizes_more}
use Rattle.roman_multi.proofs.sizes.sizes_of.Goals as goal

pub loop-i-preserved : goal.loop-i-preserved
loop-i-preserved c =
    let named = get_or c.args.targets.now c.loop-i.i c.index-targets-i.result in
    let count : c.len.result ≡ named.target.beh.states = c.len.ensures.len ∙ ap length c.states.ensures.names ∙ c.states.ensures.count in
    record {
      sizes = c.in_ok-push.ensures.items ∙ ap (λ xs. xs ++ c.len.result ∷ []) c.loop-i.invariant.sizes
          ∙ ap (λ n. target_sizes (machines (take c.loop-i.i c.args.targets.now)) ++ n ∷ []) count
          ∙ sym (sizes_more c.args.targets.now c.loop-i.i c.index-targets-i.result c.loop-i-test.true);
      known = All-more (λ (x : Named). IsTarget c.args.env.now x.target) c.args.targets.now c.loop-i.i c.index-targets-i.result c.loop-i-test.true c.loop-i.invariant.known (record {
        env_states = (c.requires c.loop-i.i c.index-targets-i.result c.loop-i-test.true).env_states;
        actions = (c.requires c.loop-i.i c.index-targets-i.result c.loop-i-test.true).actions;
        names = c.states.ensures.count;
        known = c.states.ensures.known;
        single = c.states.ensures.single;
      });
    }
