use Rattle.roman_session.proofs.Common.{◌<◌, ℕ, List, length, ap, ◌∙◌, subst, sym, arith, Beh, NamedBeh, NamedSys, FindsPlace, IfOk-weaker, beh_at, seat_beh_read, states_range}
use Rattle.roman_session.proofs.SituationLemmas.{behaviour_states}
use Rattle.roman_session.proofs.session.Session.behaviour_state.Goals as goal

pub place-requires : goal.place-requires
place-requires c = omega (arith, (states_range c.index-catalogue-i.result c.states.ensures.known).1, c.states.ensures.count, ap length c.states.ensures.names)

pub returns-clause-finds : goal.returns-clause-finds
returns-clause-finds c =
    let s = c.args.self.now in
    let behs = c.catalogue.result.now in
    let catalogue = c.catalogue.ensures ∙ ap (λ (n : NamedSys). n.catalogue) c.joint.ensures in
    let within = subst (λ (behs : List NamedBeh). c.args.i < length behs) (sym catalogue) c.requires in
    subst (λ (names : List (List ℕ)). FindsPlace names c.args.name.now c.place.result)
    (c.states.ensures.names ∙ behaviour_states s behs c.args.i c.index-catalogue-i.result catalogue within c.index-catalogue-i.is) c.place.ensures.finds

pub returns-clause-within : goal.returns-clause-within
returns-clause-within c =
    let s = c.args.self.now in
    let behs = c.catalogue.result.now in
    let catalogue = c.catalogue.ensures ∙ ap (λ (n : NamedSys). n.catalogue) c.joint.ensures in
    let within = subst (λ (behs : List NamedBeh). c.args.i < length behs) (sym catalogue) c.requires in
    let read = seat_beh_read behs c.args.i c.index-catalogue-i.result within c.index-catalogue-i.is in
    let same = ap (λ (b : Beh). b.states) read ∙ ap (λ (behs : List NamedBeh). (beh_at behs c.args.i).states) catalogue in
    IfOk-weaker c.place.result (λ b. b < length c.states.result.now) (λ b. b < (beh_at s.parts.catalogue c.args.i).states)
    (λ b less. omega (arith, less, c.states.ensures.count, ap length c.states.ensures.names, same)) c.place.ensures.within
