use Rattle.roman_joint.proofs.Common.{drop_all, flat_map, find, option_map, ◌≡◌, ℕ, ◌<◌, Bool, List, Option, Some, None, map, get_or, sym, ap, ◌∙◌, outcome_number, in_at}
use Rattle.roman_joint.proofs.Finds.{if_some, find-map, find_in_next}
use Rattle.roman_joint.proofs.outcomes.Outcomes.first_gone.Goals as goal

found_at : (number : ℕ → ℕ) (gone : ℕ → Bool) (states : List ℕ) (o : Option ℕ) → o ≡ find (λ b. gone (number b)) states → find gone (map number states) ≡ option_map number o
found_at number gone states o h = find-map number gone states ∙ ap (option_map number) (sym h)

pub returns-in-Some-clause-among : goal.returns-in-Some-clause-among
returns-in-Some-clause-among g c =
    (in_at c.args.self.now.envs.now c.loop-env.env-index 0 c.loop-env-test.true, if_some c.state_gone.result c.in-Some.state _ c.in-Some.is c.state_gone.ensures.among)

pub returns-in-Some-clause-first : goal.returns-in-Some-clause-first
returns-in-Some-clause-first g c = λ gone told.
    let envs = c.args.self.now.envs.now in
    let states = c.args.self.now.states.now in
    let i = c.loop-env.env-index in
    let number = outcome_number c.args.self.now in
    let says = rw c.from.ensures at c.state_gone.ensures.first in
    let first = found_at (number (get_or envs i 0)) gone states (Some c.in-Some.state) (sym c.in-Some.is ∙ says gone (told i 0 c.loop-env-test.true)) in
    sym (find_in_next (λ e. map (number e) states) gone envs i 0 _ c.loop-env-test.true first) ∙ c.loop-env.invariant gone told

pub loop-env-preserved : goal.loop-env-preserved
loop-env-preserved g c = λ gone told.
    let envs = c.args.self.now.envs.now in
    let states = c.args.self.now.states.now in
    let i = c.loop-env.env-index in
    let number = outcome_number c.args.self.now in
    let says = rw c.from.ensures at c.state_gone.ensures.first in
    let first = found_at (number (get_or envs i 0)) gone states None (sym c.in_default.is ∙ says gone (told i 0 c.loop-env-test.true)) in
    sym (find_in_next (λ e. map (number e) states) gone envs i 0 _ c.loop-env-test.true first) ∙ c.loop-env.invariant gone told

pub returns-clause-first : goal.returns-clause-first
returns-clause-first g c = λ gone told.
    sym (ap (λ es. find gone (flat_map (λ e. map (outcome_number c.args.self.now e) c.args.self.now.states.now) es)) (drop_all c.loop-env.env-index c.args.self.now.envs.now c.loop-env-test.false)) ∙ c.loop-env.invariant gone told
