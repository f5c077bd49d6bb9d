use Rattle.roman_session.proofs.Common.{inl, inr, refl, rules}
use Rattle.roman_session.proofs.session.Session.check_delegate.Goals as goal

pub returns-in_default-clause-checks : goal.returns-in_default-clause-checks
returns-in_default-clause-checks c = (inl ((c.in_ok-seat.seat, c.in_ok-seat.ensures.finds), inr (search rules, (refl, refl))), refl)

pub returns-then-not-is_offered-clause-checks : goal.returns-then-not-is_offered-clause-checks
returns-then-not-is_offered-clause-checks c =
    (inl ((c.in_ok-seat.seat, c.in_ok-seat.ensures.finds), inl ((c.in-Offered.action, search rules), inr (search rules, (refl, refl)))), refl)
