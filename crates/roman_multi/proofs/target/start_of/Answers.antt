use Rattle.roman_multi.proofs.Common.{ap, ◌∙◌, map, machines, take_all}
use Rattle.roman_multi.proofs.FlatLemmas.{starts_pair}
use Rattle.roman_multi.proofs.target.start_of.Goals as goal

pub number-requires : goal.number-requires
number-requires c =
    starts_pair c.args.merge.now.env.now c.args.merge.now.targets.now c.args.merge.now.shape.now c.deref.result.now c.requires.known c.requires.shape
    (c.deref.ensures.value ∙ c.loop-named.invariant ∙ ap (λ xs. map (λ target. target.start) (machines xs)) (take_all c.loop-named.named-index c.args.merge.now.targets.now c.loop-named-test.false))
