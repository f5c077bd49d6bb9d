use Rattle.roman_multi.proofs.Common.{ap, ◌∙◌, sym, length, arith, err_from_is_err_and}
use Rattle.roman_multi.proofs.CombineLemmas.{names_forbid, names_allow, merge_allows, parts_are, state_count, request_count}
use Rattle.roman_multi.proofs.combining.combine_parts.Goals as goal

pub combine_environment-requires-clause-names : goal.combine_environment-requires-clause-names
combine_environment-requires-clause-names c = ap length c.in_ok-names.ensures.1 ∙ request_count c.args.merge.now.env.now c.args.merge.now.targets.now ∙ sym (ap length c.requires.merge.requests)

pub combine_target-requires-clause-states : goal.combine_target-requires-clause-states
combine_target-requires-clause-states c = ap length c.in_ok-names.ensures.0 ∙ state_count c.args.merge.now.targets.now

pub returns-in_err-names-clause-rules : goal.returns-in_err-names-clause-rules
returns-in_err-names-clause-rules c = grind (arith, err_from_is_err_and, merge_allows, names_forbid)

pub returns-clause-parts : goal.returns-clause-parts
returns-clause-parts c = parts_are _ _ _ _ _ _ _ _ _ c.requires.merge.requests c.in_ok-names.ensures.0 c.in_ok-names.ensures.1 c.in_ok-environment.ensures c.in_ok-catalogue.ensures c.in_ok-target.ensures

pub returns-clause-rules : goal.returns-clause-rules
returns-clause-rules c = let (few, good) = merge_allows c.args.merge.now c.requires.merge in names_allow _ _ c.in_ok-names.names few good c.in_ok-names.ensures
