-- A state in which the guard holds gets its bit, and the others are skipped.
use Rattle.roman_guard.proofs.Common.{◌≡◌, arith, sym, ◌∙◌, holds}
use Rattle.roman_guard.proofs.MarkLemmas.{marks_one, marks_skip, marked_states, marked_has_exactly}
use Rattle.roman_guard.proofs.set.compile.Goals as goal
use Rattle.roman_guard.proofs.set.compile.Goals.{then-holds_at, else-holds_at}

pub loop-e-preserved : goal.loop-e-preserved
loop-e-preserved c =
    elim c.if-holds_at.branch [
      | then-holds_at w ↦ rw w.bits-is (marks_one c.loop-e.bits c.loop-e.e (holds c.args.guard.now) (omega arith) c.loop-e.invariant (sym c.holds_at.ensures ∙ w.if-holds_at.true))
      | else-holds_at w ↦ rw w.bits-is (marks_skip c.loop-e.bits c.loop-e.e (holds c.args.guard.now) c.loop-e.invariant (sym c.holds_at.ensures ∙ w.if-holds_at.false))
    ]

pub returns-clause-has : goal.returns-clause-has
returns-clause-has c e =
    let done : c.loop-e.e ≡ c.args.states = omega arith in
    rw (← done) (marked_has_exactly c.loop-e.bits c.loop-e.e (holds c.args.guard.now) c.loop-e.invariant e)

pub returns-clause-states : goal.returns-clause-states
returns-clause-states c = grind (arith, marked_states)
