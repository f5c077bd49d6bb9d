use Rattle.roman_session.proofs.Common.{inl, inr, refl, err_from_is_err_and, rules}
use Rattle.roman_session.proofs.RuleLemmas.{no_name}
use Rattle.roman_session.proofs.session.Session.check_jump.Goals as goal

pub returns-in_err-state-clause-checks : goal.returns-in_err-state-clause-checks
returns-in_err-state-clause-checks c =
    let p = err_from_is_err_and c.from_residual-in_err-state.result c.from_residual-in_err-state.ensures.1 in
    let finds = c.in_err-state.ensures.finds in
    rw p.1 ((inl ((c.in_ok-seat.seat, c.in_ok-seat.ensures.finds), inr (finds.1, no_name c.args.self.now p.0 (cc (p.2, finds.0)))), refl))

pub returns-then-not-is_idle-clause-checks : goal.returns-then-not-is_idle-clause-checks
returns-then-not-is_idle-clause-checks c =
    (inl ((c.in_ok-seat.seat, c.in_ok-seat.ensures.finds), inl ((c.in_ok-state.state, c.in_ok-state.ensures.finds), inr (search rules, (refl, refl)))), refl)
