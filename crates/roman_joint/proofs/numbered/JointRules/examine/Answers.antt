use Rattle.roman_joint.proofs.Common.{count, sizes_of, length-below, ℕ, Some, IsFalse, get_or, sym, ap, ◌∙◌, subst, arith, option_map, find, is_empty, system_of, IsPairWith, outcome_number, in_at}
use Rattle.roman_joint.proofs.Finds.{all_pairs, if_some, no_numbers, some_numbers, none_there, some_there}
use Rattle.roman_joint.proofs.numbered.JointRules.examine.Goals as goal

pub returns-then-is_empty-clause-finding : goal.returns-then-is_empty-clause-finding
returns-then-is_empty-clause-finding g c = λ gone told.
    let o = c.outcomes-outcomes.result in
    record { is = c.outcomes-outcomes.ensures.numbers ∙ no_numbers (outcome_number o) o.envs.now o.states.now (none_there o.states.now c.is_empty.result c.is_empty.ensures c.if-is_empty.true) }

pub first_gone-requires : goal.first_gone-requires
first_gone-requires g c =
    let o = c.outcomes-outcomes.result in
    let to = c.outcomes-outcomes.ensures in
    let n = sizes_of (system_of c.args.self.now) in
    let some = some_there o.states.now c.is_empty.result c.is_empty.ensures c.if-is_empty.false in
    let there = all_pairs (λ e b. IsPairWith n c.args.k (outcome_number o e b) e b) o.envs.now o.states.now to.places in
    record {
      envs = λ i d l. omega (arith, (there i d l 0 0 some).below, to.few);
      fits = λ i d l j e m. omega (arith, (there i d l j e m).below, to.few);
      callable = λ i d l j e m. c.requires.callable _ (rw (length-below (count n)) (there i d l j e m).below);
    }

pub number-requires : goal.number-requires
number-requires g c =
    let among = if_some c.first_gone.result (c.in-Some.env, c.in-Some.state) _ c.in-Some.is c.first_gone.ensures.among in
    omega (arith, (c.outcomes-outcomes.ensures.places c.in-Some.env c.in-Some.state among.0 among.1).below, c.outcomes-outcomes.ensures.few)

pub returns-in-None-clause-finding : goal.returns-in-None-clause-finding
returns-in-None-clause-finding g c = λ gone told.
    let o = c.outcomes-outcomes.result in
    let to = c.outcomes-outcomes.ensures in
    let n = sizes_of (system_of c.args.self.now) in
    let some = in_at o.states.now 0 0 (some_there o.states.now c.is_empty.result c.is_empty.ensures c.if-is_empty.false) in
    let there = all_pairs (λ e b. IsPairWith n c.args.k (outcome_number o e b) e b) o.envs.now o.states.now to.places in
    let first = c.first_gone.ensures.first gone (λ i d l j e m r post. told _ r (rw (length-below (count n)) (there i d l j e m).below) post) in
    record {
      is = (
        subst (λ qs. IsFalse (is_empty qs)) (sym to.numbers) (some_numbers (outcome_number o) o.envs.now o.states.now (get_or o.states.now 0 0) to.some some),
        ap (find gone) to.numbers ∙ (sym first ∙ ap (option_map (λ (x : ℕ × ℕ). outcome_number o x.0 x.1)) c.in-None.is),
      );
    }

pub returns-in-Some-clause-finding : goal.returns-in-Some-clause-finding
returns-in-Some-clause-finding g c = λ gone told.
    let o = c.outcomes-outcomes.result in
    let to = c.outcomes-outcomes.ensures in
    let n = sizes_of (system_of c.args.self.now) in
    let among = if_some c.first_gone.result (c.in-Some.env, c.in-Some.state) _ c.in-Some.is c.first_gone.ensures.among in
    let there = all_pairs (λ e b. IsPairWith n c.args.k (outcome_number o e b) e b) o.envs.now o.states.now to.places in
    let first = c.first_gone.ensures.first gone (λ i d l j e m r post. told _ r (rw (length-below (count n)) (there i d l j e m).below) post) in
    let found = sym first ∙ ap (option_map (λ (x : ℕ × ℕ). outcome_number o x.0 x.1)) c.in-Some.is in
    let at : IsPairWith n c.args.k c.number.result c.in-Some.env c.in-Some.state =
    subst (λ q. IsPairWith n c.args.k q c.in-Some.env c.in-Some.state) (sym c.number.ensures) (to.places c.in-Some.env c.in-Some.state among.0 among.1) in
    record { is = (ap (find gone) to.numbers ∙ (found ∙ ap Some (sym c.number.ensures)), at.env, at.state) }
