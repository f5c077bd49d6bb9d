use Rattle.roman_session.proofs.Common.{arith, inl, inr, refl, rules, err_from_is_err_and}
use Rattle.roman_session.proofs.RuleLemmas.{change_busy, change_unnamed}
use Rattle.roman_session.proofs.session.Session.check_change.Goals as goal

pub returns-in_err-seat-clause-checks : goal.returns-in_err-seat-clause-checks
returns-in_err-seat-clause-checks c = grind (arith, err_from_is_err_and, change_unnamed)

pub returns-then-not-is_idle-clause-checks : goal.returns-then-not-is_idle-clause-checks
returns-then-not-is_idle-clause-checks c = change_busy c.args.change c.args.self.now c.args.service.now c.in_ok-seat.seat c.in_ok-seat.ensures.finds (search rules)

pub returns-in-Freeze-clause-checks : goal.returns-in-Freeze-clause-checks
returns-in-Freeze-clause-checks c =
    rw c.in-Freeze.is ((inl ((c.in_ok-seat.seat, c.in_ok-seat.ensures.finds), inl (search rules, inr (search rules, (refl, refl)))), inl refl))

pub returns-in-Thaw-clause-checks : goal.returns-in-Thaw-clause-checks
returns-in-Thaw-clause-checks c =
    rw c.in-Thaw.is ((inl ((c.in_ok-seat.seat, c.in_ok-seat.ensures.finds), inl (search rules, inl (search rules, (refl, refl)))), inl refl))
