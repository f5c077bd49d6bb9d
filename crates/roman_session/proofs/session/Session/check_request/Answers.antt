use Rattle.roman_session.proofs.Common.{inl, inr, refl, rules}
use Rattle.roman_session.proofs.session.Session.check_request.Goals as goal

pub returns-then-not-is_great : goal.returns-then-not-is_great
returns-then-not-is_great c = (inl ((c.in_ok-a.a, search rules), inl (search rules, inr (search rules, (refl, refl)))), refl)

pub returns-then-not-may_request : goal.returns-then-not-may_request
returns-then-not-may_request c = (inl ((c.in_ok-a.a, search rules), inl (search rules, inl (search rules, inr (search rules, (refl, refl))))), refl)
