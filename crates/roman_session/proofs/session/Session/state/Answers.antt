use Rattle.roman_session.proofs.Common.{◌<◌, ℕ, slice_index, sym, ap, ◌∙◌, subst, arith, Situation, present_system, get_or_read, state_within}
use Rattle.roman_session.proofs.SituationLemmas.{situation_known, state_there}
use Rattle.roman_session.proofs.session.Session.state.Goals as goal

pub index-requires : goal.index-requires
index-requires c =
    let a = c.self.inside in
    omega (arith, state_there a c.args.self.now c.args.k c.self.invariant c.self.view_is c.requires, a.states.ok.0)

pub returns-clause-value : goal.returns-clause-value
returns-clause-value c =
    let a = c.self.inside in
    get_or_read a.states.items _ _ (state_there a c.args.self.now c.args.k c.self.invariant c.self.view_is c.requires) c.index.ensures 0
    ∙ ap (λ (s : Situation). slice_index s.here.bs c.args.k) c.self.view_is

pub returns-clause-within : goal.returns-clause-within
returns-clause-within c = λ seat seated.
    let a = c.self.inside in
    let s = c.args.self.now in
    let value =
    get_or_read a.states.items _ _ (state_there a s c.args.k c.self.invariant c.self.view_is c.requires) c.index.ensures 0
    ∙ ap (λ (s : Situation). slice_index s.here.bs c.args.k) c.self.view_is in
    subst (λ (n : ℕ). n < seat.beh.states) (sym value) (state_within (present_system s) s.here c.args.k seat (situation_known a s c.self.invariant c.self.view_is).here seated)
