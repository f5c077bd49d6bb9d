use Rattle.roman_multi.proofs.Common.{◌≡◌, ap, ◌∙◌, length, refl, IfOk-weaker, IsOver-states, named_beh, merge_behaviour}
use Rattle.roman_multi.proofs.MoveLemmas.{made_is, made_steps_in_range, made_finals_below}
use Rattle.roman_multi.proofs.PartLemmas.{behaviour_lists}
use Rattle.roman_multi.proofs.behaviours.combine_behaviour.Goals as goal

pub moves_of-requires : goal.moves_of-requires
moves_of-requires c = record {
  of = c.requires.of;
  few = c.requires.merge.some.1;
  actions = λ k d l. (c.requires.merge.in_range k d l).1;
}

pub from_lists-requires : goal.from_lists-requires
from_lists-requires c =
    let count = ap length (c.in_ok-states.ensures.same ∙ c.states.ensures.names) ∙ c.states.ensures.count in
    let lists = behaviour_lists c.args.merge.now.env.now c.args.merge.now.requests.now c.args.behaviour.now (length c.in_ok-states.states) c.start.result c.deref.result.now c.deref-2.result.now c.known.ensures.known c.requires.of
    c.states.ensures.known count c.start.ensures.start (c.deref.ensures.value ∙ c.in_ok-finals.ensures) (c.deref-2.ensures.value ∙ c.in_ok-steps.ensures) in
    record {
      lists = record {
        count = rw count (IsOver-states _ _ _ c.states.ensures.known);
        begins = rw count c.start.ensures.within;
        stops = made_finals_below _ _ _ _ _ _ _ _ _ _ lists;
        moves = made_steps_in_range _ _ _ _ _ _ _ _ _ _ lists _ c.requires.over.actions;
      };
    }

pub returns : goal.returns
returns c =
    let kept = c.in_ok-states.ensures.same ∙ c.states.ensures.names in
    let lists = behaviour_lists c.args.merge.now.env.now c.args.merge.now.requests.now c.args.behaviour.now (length c.in_ok-states.states) c.start.result c.deref.result.now c.deref-2.result.now c.known.ensures.known c.requires.of
    c.states.ensures.known (ap length kept ∙ c.states.ensures.count) c.start.ensures.start (c.deref.ensures.value ∙ c.in_ok-finals.ensures) (c.deref-2.ensures.value ∙ c.in_ok-steps.ensures) in
    let beh = made_is _ _ _ _ _ _ _ _ _ _ lists _ _ c.requires.over.states c.requires.over.actions in
    let same : named_beh c.args.over.now c.name.result.now c.in_ok-states.states c.start.result c.deref.result.now c.deref-2.result.now ≡ merge_behaviour c.args.merge.now c.args.behaviour.now =
    rw (beh, c.name.ensures, kept, c.requires.over.states, c.requires.over.actions) refl in
    IfOk-weaker c.from_lists.result _ _ (λ made is. is ∙ same) c.from_lists.ensures
