use Rattle.roman_multi.proofs.Common.{arith, slice_get-get_or}
use Rattle.roman_multi.proofs.KnownLemmas.{machine_at}
use Rattle.roman_multi.proofs.FlatLemmas.{part_is, part_below, below_part, moved_is}
use Rattle.roman_multi.proofs.TargetLemmas.{no_step, one_step}
use Rattle.roman_multi.proofs.target.push_move.Goals as goal

pub step-requires-clause-state : goal.step-requires-clause-state
step-requires-clause-state c = part_below _ _ _ _ c.index-targets-request.result c.requires.merge.shape (c.requires.merge.in_range c.args.n _ c.requires.action).0 c.part_of-state.ensures.below

pub with_part-next-requires-clause-state : goal.with_part-next-requires-clause-state
with_part-next-requires-clause-state c = below_part _ _ _ _ c.index-targets-request.result c.requires.merge.shape (c.requires.merge.in_range c.args.n _ c.requires.action).0 c.in-Some.ensures.below

pub returns-in-None : goal.returns-in-None
returns-in-None c = grind (arith, machine_at, no_step, part_is, slice_get-get_or, c.requires.merge.in_range c.args.n)

pub returns-in_ok-push-in-Some : goal.returns-in_ok-push-in-Some
returns-in_ok-push-in-Some c = grind (arith, machine_at, moved_is, one_step, part_is, slice_get-get_or, c.requires.merge.in_range c.args.n)
