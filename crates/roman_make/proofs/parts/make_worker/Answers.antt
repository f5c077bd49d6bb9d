use Rattle.roman_make.proofs.Common.{◌∙◌, ap, arith, length, refl, rules, WORKER_STEPS}
use Rattle.roman_make.proofs.PartLemmas.{always, lists_within, worker_is}
use Rattle.roman_make.proofs.parts.make_worker.Goals as goal

pub from_lists-requires : goal.from_lists-requires
from_lists-requires c = record {
  lists = lists_within c.args.env.now c.in_ok-states.states _ c.deref.result.now (always WORKER_STEPS) 3 c.requires (ap length c.in_ok-states.ensures) (c.deref.ensures.value ∙ c.in_ok-steps.ensures) (omega arith, omega arith) (grind arith) refl;
}

pub returns-clause-worker : goal.returns-clause-worker
returns-clause-worker c = c.in_ok-worker.ensures ∙ worker_is _ _ _ _ c.requires c.name_of-name.ensures c.in_ok-states.ensures (c.deref.ensures.value ∙ c.in_ok-steps.ensures)
