use Rattle.roman_joint.proofs.Common.{slice_get, slice_index, sym, ◌∙◌, system_of, may_rest}
use Rattle.roman_joint.proofs.RestLemmas.{stopped}
use Rattle.roman_joint.proofs.fine.front_rests.Goals as goal

pub returns-then-not-may_rest : goal.returns-then-not-may_rest
returns-then-not-may_rest c =
    stopped (λ k. may_rest (slice_get (system_of c.args.joint.now).seats k) (slice_index c.args.row.now.states k)) c.loop-k.k c.args.many c.loop-k-test.true (sym c.may_rest.ensures ∙ c.if-not-may_rest.true)
