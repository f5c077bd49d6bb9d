use Rattle.roman_multi.proofs.Common.{refl, ap, ◌∙◌, map, slice_get, next_on, env_next}
use Rattle.roman_multi.proofs.ListLemmas.{flat_map_pushed, read_get}
use Rattle.roman_multi.proofs.environment.push_state.Goals as goal

pub loop-n-preserved : goal.loop-n-preserved
loop-n-preserved c =
    flat_map_pushed (λ n. map (λ to. (c.args.e, n, to)) (next_on c.args.env.now.env c.args.e (slice_get c.args.requests.now n))) c.loop-n.n
    c.args.steps.now.items c.loop-n.steps.items c.push_triples.new.steps.items _ c.loop-n.invariant c.in_ok-push_triples.ensures
    (ap (map (λ to. (c.args.e, c.loop-n.n, to))) (c.next.ensures.next
    ∙ read_get (next_on c.args.env.now.env c.args.e) (λ r. env_next c.args.env.now.env c.args.e r.action) c.args.requests.now c.loop-n.n _ (λ y. refl) c.loop-n-test.true))
