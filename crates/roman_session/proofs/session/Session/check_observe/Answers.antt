use Rattle.roman_session.proofs.Common.{err_from_is_err_and, rules, inl, inr, refl}
use Rattle.roman_session.proofs.RuleLemmas.{no_name}
use Rattle.roman_session.proofs.session.Session.check_observe.Goals as goal

pub returns-in_err-state-clause-checks : goal.returns-in_err-state-clause-checks
returns-in_err-state-clause-checks c =
    let p = err_from_is_err_and c.from_residual.result c.from_residual.ensures.1 in
    let finds = c.in_err-state.ensures.finds in
    rw p.1 ((inl ((c.in-Delegated.action, c.in-Delegated.seat, search rules), inr (finds.1, no_name c.args.self.now p.0 (cc (p.2, finds.0)))), refl))

pub returns-in_err-env-clause-checks : goal.returns-in_err-env-clause-checks
returns-in_err-env-clause-checks c =
    let p = err_from_is_err_and c.from_residual-in_err-env.result c.from_residual-in_err-env.ensures.1 in
    let finds = c.in_err-env.ensures.finds in
    rw p.1 ((inl ((c.in-Delegated.action, c.in-Delegated.seat, search rules), inl ((c.in_ok-state.state, c.in_ok-state.ensures.finds), inr (finds.1, no_name c.args.self.now p.0 (cc (p.2, finds.0))))), refl))
