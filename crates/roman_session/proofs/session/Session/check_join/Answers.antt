use Rattle.roman_session.proofs.Common.{arith, Bool, List, ℕ, map, not, false, inl, inr, refl, sym, ap, ◌∙◌, subst, rules, err_from_is_err_and, IsIn, Tests, seat_name}
use Rattle.roman_session.proofs.RuleLemmas.{no_name, found_tests}
use Rattle.roman_session.proofs.session.Session.check_join.Goals as goal

pub returns-in_err-behaviour-clause-checks : goal.returns-in_err-behaviour-clause-checks
returns-in_err-behaviour-clause-checks c = grind (arith, err_from_is_err_and, no_name)

pub returns-in_err-state-clause-checks : goal.returns-in_err-state-clause-checks
returns-in_err-state-clause-checks c =
    let p = err_from_is_err_and c.from_residual-in_err-state.result c.from_residual-in_err-state.ensures.1 in
    let finds = c.in_err-state.ensures.finds in
    rw p.1 ((inl (c.in-Some.ensures.name.0, inl ((c.in_ok-behaviour.behaviour, c.in_ok-behaviour.ensures.finds), inr (finds.1, no_name c.args.self.now p.0 (cc (p.2, finds.0))))), inl refl))

pub returns-then-not-is_idle-clause-checks : goal.returns-then-not-is_idle-clause-checks
returns-then-not-is_idle-clause-checks c =
    (inl (c.in-Some.ensures.name.0, inl ((c.in_ok-behaviour.behaviour, c.in_ok-behaviour.ensures.finds), inl ((c.in_ok-state.state, c.in_ok-state.ensures.finds), inr (search rules, (refl, refl))))), inl refl)

pub returns-then-is_ok-clause-checks : goal.returns-then-is_ok-clause-checks
returns-then-is_ok-clause-checks c =
    let names = map seat_name c.args.self.now.parts.seats in
    let tests = found_tests names c.args.words.service.now c.service_place.result c.service_place.ensures.finds in
    let taken = subst (λ (b : Bool). Tests b (IsIn c.args.words.service.now names)) (sym c.is_ok.ensures.value ∙ c.if-is_ok.true) tests in
    (inl (c.in-Some.ensures.name.0, inl ((c.in_ok-behaviour.behaviour, c.in_ok-behaviour.ensures.finds), inl ((c.in_ok-state.state, c.in_ok-state.ensures.finds), inl (search rules, inl (taken, (refl, refl)))))), inl refl)

pub returns-clause-checks : goal.returns-clause-checks
returns-clause-checks c =
    let names = map seat_name c.args.self.now.parts.seats in
    let tests = found_tests names c.args.words.service.now c.service_place.result c.service_place.ensures.finds in
    record {
      good = c.in-Some.ensures.name.0;
      at = c.in_ok-behaviour.ensures.finds;
      named = c.in_ok-state.ensures.finds;
      idle = search rules;
      free = subst (λ (b : Bool). Tests b (IsIn c.args.words.service.now names)) (sym c.is_ok.ensures.value ∙ c.if-is_ok.false) tests;
      seat = ap (λ (name : List ℕ). record { name = name; behaviour = c.in_ok-behaviour.behaviour; frozen = false; rests = not c.args.words.loose }) c.in-Some.ensures.name.1;
    }

pub returns-clause-within : goal.returns-clause-within
returns-clause-within c =
    let names = map seat_name c.args.self.now.parts.seats in
    let tests = found_tests names c.args.words.service.now c.service_place.result c.service_place.ensures.finds in
    let free = subst (λ (b : Bool). Tests b (IsIn c.args.words.service.now names)) (sym c.is_ok.ensures.value ∙ c.if-is_ok.false) tests in
    record {
      name = subst (λ (name : List ℕ). IsIn name names → ⊥) (sym c.in-Some.ensures.name.1) free;
      behaviour = c.in_ok-behaviour.ensures.within;
      state = c.in_ok-state.ensures.within;
      ready = refl;
    }
