use Rattle.roman_multi.proofs.Common.{◌≡◌, ap, subst, sym, ◌∙◌, length, refl, List, IfOk-weaker, named_target, merge_target, combined_target, Request, IsDeterministic, combined_system, machines}
use Rattle.roman_multi.proofs.MoveLemmas.{made_is, made_steps_in_range, made_finals_below}
use Rattle.roman_multi.proofs.TargetLemmas.{merge_several, merge_lists}
use Rattle.roman_multi.proofs.target.combine_target.Goals as goal

pub from_lists-requires : goal.from_lists-requires
from_lists-requires c =
    let lists = merge_lists c.args.merge.now (length c.args.states) c.in_ok-start.start c.deref.result.now c.deref-2.result.now c.known.ensures.known c.requires.merge c.requires.states
    c.in_ok-start.ensures (c.deref.ensures.value ∙ c.in_ok-finals.ensures) (c.deref-2.ensures.value ∙ c.in_ok-steps.ensures) in
    let one = combined_system _ (merge_several c.args.merge.now c.known.ensures.known c.requires.merge) in
    let actions = c.requires.over.actions ∙ ap length c.requires.merge.requests in
    record {
      lists = record {
        count = rw lists.count one.target.states;
        begins = rw (lists.count, lists.begins) one.target.start;
        stops = made_finals_below _ _ _ _ _ _ _ _ _ _ lists;
        moves = made_steps_in_range _ _ _ _ _ _ _ _ _ _ lists _ actions;
      };
      single = subst IsDeterministic (sym (made_is _ _ _ _ _ _ _ _ _ _ lists _ _ c.requires.over.states actions)) one.single;
    }

pub returns : goal.returns
returns c =
    let lists = merge_lists c.args.merge.now (length c.args.states) c.in_ok-start.start c.deref.result.now c.deref-2.result.now c.known.ensures.known c.requires.merge c.requires.states
    c.in_ok-start.ensures (c.deref.ensures.value ∙ c.in_ok-finals.ensures) (c.deref-2.ensures.value ∙ c.in_ok-steps.ensures) in
    let beh = made_is _ _ _ _ _ _ _ _ _ _ lists _ _ c.requires.over.states (c.requires.over.actions ∙ ap length c.requires.merge.requests)
    ∙ ap (λ (xs : List Request). combined_target c.args.merge.now.env.now.env.states xs (machines c.args.merge.now.targets.now)) (sym c.requires.merge.requests) in
    let same : named_target c.args.over.now c.args.states c.in_ok-start.start c.deref.result.now c.deref-2.result.now ≡ merge_target c.args.merge.now c.args.states = rw (beh, c.requires.over.states, c.requires.over.actions) refl in
    IfOk-weaker c.from_lists.result _ _ (λ made is. is ∙ same) c.from_lists.ensures
