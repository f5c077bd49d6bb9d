-- Re-exports the names that the proof pages of this crate use from other crates. Declares nothing.
pub use Rattle.std.proofs.Common.{All, Bool, Err, IfOk, IsFalse, IsSome, IsTrue, List, MatchOption, None, Ok, Option, Result, Some, [], add-one, ap, append_assoc, ap₂, arith, cond, drop, false, filter, flat_map, get_or, inl, inr, is_some, length, map, not, refl, slice_get, slice_index, slice_set, subst, suc, sym, take, true, zero, ℕ, ◌%◌, ◌&&◌, ◌*◌, ◌++◌, ◌+◌, ◌<◌, ◌==◌, ◌^◌, ◌∙◌, ◌∷◌, ◌≡◌, ◌≤◌}
pub use Rattle.std.proofs.lemmas.Bool.{and_from, and_parts, eq-eqb, eqb-true, false≢true, le-leb, le-ltb, lt-ltb, ltb-false, ne_eqb, or_from, true≢false}
pub use Rattle.std.proofs.lemmas.List.{append-nil, get_or-map, length-map, map-append, take_all, take_more}
pub use Rattle.std.proofs.lemmas.List.Elements.{All-more}
pub use Rattle.std.proofs.lemmas.List.Folds.{list_any-append}
pub use Rattle.std.proofs.lemmas.Nat.{mod-mul-add}
pub use Rattle.std.proofs.lemmas.Option.{get_or_from_slice_get, none-some, same_Some, slice_get-get_or, slice_get-map}
pub use Rattle.std.proofs.lemmas.Result.{IfOk-weaker, err_from_is_err_and}
pub use Rattle.std.specs.List.{AllZip, list_all, list_any}
pub use Rattle.std.specs.Option.{SomeIff, option_map}
pub use Rattle.std.specs.Prelude.{if◌then◌else◌, slice_index_or}
pub use Rattle.roman_guard.proofs.CallerLemmas.{states_of-single}
pub use Rattle.roman_guard.specs.Meaning.{states_of}
pub use Rattle.roman_model.proofs.CallerLemmas.{IsBeh-made, IsMemberStep, IsPairOf-at, all_in, any_false, any_from, any_true, beh_from_same, combined_system, combined_target_goes, env_from_same, filter_in, filter_same, flat_map_row, flat_map_same_in, from_beh_next, from_below, from_combined_target, from_env_next, from_flat_map, from_made_move, from_map, get_in, in_at, in_beh_next, in_below, in_env_next, in_flat_map, in_map, length-below, length-states_at, listed_number, made_move, move_passes, move_test, number_listed, same_test, stands_uses, states_number-at, target_size_at, triple_in_range}
pub use Rattle.roman_model.specs.Combined.{IsSeveral, all_requests, combined, combined_beh, combined_env, combined_start, combined_target, has_move_on, has_triple_on, requests_of, stands_in, target_sizes, targets_go, uses}
pub use Rattle.roman_model.specs.Lists.{IsIn, below, is_empty, product_of}
pub use Rattle.roman_model.specs.Made.{beh_from}
pub use Rattle.roman_model.specs.Normal.{normal_beh, normal_env}
pub use Rattle.roman_model.specs.Numbers.{IsPairOf, Sizes, count, number, pair_at, states_at, states_number}
pub use Rattle.roman_model.specs.Several.{Several, are_final}
pub use Rattle.roman_model.specs.System.{Beh, Env, IsBeh, IsDeterministic, IsEnv, IsSys, Move, Triple, has, has_move, has_triple, is_final}
pub use Rattle.roman_model.specs.SystemArena.{beh_next, env_next}
pub use Rattle.roman_model.specs.declared.limits.TheConstants.{MAX_ACTIONS, MAX_STATES}
pub use Rattle.roman_model.specs.declared.request.Request.{Request}
pub use Rattle.roman_parts.proofs.CallerLemmas.{IsOver-start, IsOver-states, has_filter}
pub use Rattle.roman_parts.specs.Listed.{AreMoves, AreTriples, listed_beh, listed_env, move_of, triple_of, named_beh, named_env, named_target}
pub use Rattle.roman_parts.specs.Named.{IsOver, IsTarget, NamedBeh, NamedEnv, NamedTarget}
pub use Rattle.roman_radix.specs.Radix.{with_part}
pub use Rattle.roman_read.specs.Names.{is_name, is_name_byte, place_of}
pub use Rattle.roman_multi.specs.Combining.{IsBehaviourOf, ObeysRules, PlainCombined, combined_behaviour, combined_state_names, has_bad_count, has_long_name, has_many_states, has_one_name, has_repeats, is_long, joined, machines, names_at, request_name, request_names, requests_in, stands_before}
unfoldable pub use Rattle.roman_multi.specs.Combining.{combined_parts, forbidding}
pub use Rattle.roman_multi.specs.Lists.{AreCombinedNames, flat, is_word, listed_moves, listed_triples, member_next, moves_by, moves_from, moves_in, moves_on, next_of_all, next_on, triples_by, used_at, used_by}
pub use Rattle.roman_multi.specs.Merges.{IsMerge, combined_environment, next_in, next_of_member, one_target, state_total, combined_environment, merge_behaviour, merge_target}
pub use Rattle.roman_multi.specs.declared.error.CombineError.{CombineError}
pub use Rattle.roman_multi.specs.declared.merge.Merge.{Merge}
pub use Rattle.roman_multi.specs.declared.parts.Named.{Named}
