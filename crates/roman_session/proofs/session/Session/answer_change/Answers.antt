use Rattle.roman_session.proofs.Common.{◌∙◌, rules}
use Rattle.roman_session.proofs.AnswerLemmas.{done}
use Rattle.roman_session.proofs.ChangedLemmas.{changes, service_changed, service_pair, suits_inside}
use Rattle.roman_session.proofs.SituationLemmas.{state_there}
use Rattle.roman_session.proofs.session.Session.answer_change.Goals as goal

pub change_service-tally-requires : goal.change_service-tally-requires
change_service-tally-requires g c = record {
  up_to_date = search rules;
  seat = search rules;
  state = state_there c.self.inside _ c.in-Ok.k c.self.invariant c.self.view_is c.in-Ok.ensures.within;
  suits = suits_inside c.self.inside _ _ c.self.view_is c.in-Ok.ensures.within c.args.change c.in-Ok.ensures.checks.suits;
}

pub number_of-self-inside-requires : goal.number_of-self-inside-requires
number_of-self-inside-requires g c =
    let made = c.change_service-tally in
    service_pair c.self.inside _ _ c.self.view_is c.in-Ok.ensures.within c.args.change made.new.relation _ made.result c.self.invariant made.ensures.relation.repaired (c.deref.ensures.value ∙ made.ensures.states)

pub invariant_of-self : goal.invariant_of-self
invariant_of-self g c =
    let can = c.in-Ok.ensures in
    let made = c.change_service-tally.ensures in
    (service_changed c.self.inside _ _ c.self.view_is can.within c.args.change _ c.change_service-tally.new.states _ _ _ _ c.self.invariant can.checks.idle made.relation.joint made.relation.repaired c.known.ensures made.states c.deref.ensures.value c.number_of-self-inside.ensures made.room c.kept.ensures).session

pub returns-clause-step : goal.returns-clause-step
returns-clause-step g c =
    let can = c.in-Ok.ensures in
    let made = c.change_service-tally.ensures in
    let now = service_changed c.self.inside _ _ c.self.view_is can.within c.args.change _ c.change_service-tally.new.states _ _ _ _ c.self.invariant can.checks.idle made.relation.joint made.relation.repaired c.known.ensures made.states c.deref.ensures.value c.number_of-self-inside.ensures made.room c.kept.ensures in
    done _ _ _ _ _ _ _ _ _ c.push_reply-2.ensures.gathers (changes c.args.change _ _ _ _ _ can.within can.checks now.made)
