-- Re-exports the names that the proof pages of this crate use from other crates. Declares nothing.
pub use Rattle.std.proofs.Common.{All, Bool, Err, IsTrue, List, MatchOption, None, Ok, Option, Result, Some, [], add-one, ap, append-nil, append_assoc, ap₂, arith, below_more, codes, cond, false, filter, find, get_or, inl, inr, is_none, is_some, length, length-append, map, not, option_map, refl, replicate, rules, set, slice_get, slice_range, string_bytes, subst, suc, sym, take, true, zero, vec_capacity, ℕ, ◌%◌, ◌&&◌, ◌*◌, ◌++◌, ◌+◌, ◌-◌, ◌<◌, ◌==◌, ◌^◌, ◌||◌, ◌∙◌, ◌∷◌, ◌≡◌, ◌≢◌, ◌≤◌}
pub use Rattle.std.proofs.Math.Bool.{and-true, or-false, or-true}
pub use Rattle.std.proofs.lemmas.Bool.{and_from, and_parts, cases_eq, cases_lt, cases_order, cond_both, eq-eqb, eqb-true, false_from_ne_true, ne_eqb, true≢false}
pub use Rattle.std.proofs.lemmas.Grind.{common_steps}
pub use Rattle.std.proofs.lemmas.List.{drop_at, get_or-map, get_or-replicate, get_or-set_other, get_or-set_same, get_or-take, get_or_append_left, get_or_past, get_or_push, length-map, length-replicate, length-take, length_push, map_more, map_push, take-append-le, take_all, take_at}
pub use Rattle.std.proofs.lemmas.List.Elements.{All-contains, All-filter, filter-append}
pub use Rattle.std.proofs.lemmas.List.Folds.{list_any_more}
pub use Rattle.std.proofs.lemmas.List.Quantifiers.{position-Some}
pub use Rattle.std.proofs.lemmas.Nat.{mul-add-lt, same_from_place}
pub use Rattle.std.proofs.lemmas.Nat.Bits.{bit_at-trailing_zeros, bit_at-zero, bit_at_above, bit_at_clear_other, bit_at_clear_same, bit_at_set_other, bit_at_set_same}
pub use Rattle.std.proofs.lemmas.Option.{get_or_from_slice_get, none-some, same_Some, slice_get-get_or, slice_get_within}
pub use Rattle.std.proofs.lemmas.Slice.{between_is}
pub use Rattle.std.proofs.lemmas.Slice.Eq.{bytes_eq-Decides}
pub use Rattle.std.specs.Int.{bit_at, bit_not, trailing_zeros, w64}
pub use Rattle.std.specs.Int.RustNames.{bit_and, bit_or}
pub use Rattle.std.specs.List.{list_any, position_or_len, range_with_len}
pub use Rattle.std.specs.Option.{option_and_then}
pub use Rattle.std.specs.Prelude.{if◌then◌else◌, slice_index_or}
pub use Rattle.std.specs.Str.{bytes_eq}
pub use Rattle.roman_guard.proofs.CallerLemmas.{holds-All, holds-Among, holds-Both, holds-Either, holds-Never, holds-Not, states_below-past, states_below-same, states_below-suc, states_below-zero, states_below_are}
pub use Rattle.roman_guard.specs.Meaning.{has_both, has_state, holds, states_of}
unfoldable pub use Rattle.roman_guard.specs.Meaning.{least_below, states_below}
pub use Rattle.roman_model.proofs.CallerLemmas.{HasNoRepeats-below, HasNoRepeats-filter, IsBeh-made, IsEnv-made, any_from, any_same, any_true, beh_from_same, by_test, env_from_same, filter_in, filter_same, find_first, find_found, find_least, find_not_found, find_some, from_below, from_made_final, from_made_move, from_made_triple, get_or-below, in_below, in_contains, in_filter, length-below, list_any-map, made_final, made_move, made_triple, move_test, none_from, same_test}
pub use Rattle.roman_model.specs.Lists.{HasNoRepeats, IsIn, below}
pub use Rattle.roman_model.specs.Made.{env_from}
pub use Rattle.roman_model.specs.Normal.{normal_beh, normal_env}
pub use Rattle.roman_model.specs.System.{Beh, Env, IsBeh, IsDeterministic, IsEnv, Move, Triple, has, has_move, has_triple, is_final}
pub use Rattle.roman_model.specs.SystemArena.{beh_next, beh_prev, env_next, env_prev}
pub use Rattle.roman_model.specs.declared.limits.TheConstants.{MAX_ACTIONS, MAX_STATES}
pub use Rattle.roman_read.proofs.CallerLemmas.{IsLeft, at_start, bind_ok, is_done, place_of-present, pushed_ends, pushed_on, same_ok}
pub use Rattle.roman_read.specs.Items.{◌>>=◌}
unfoldable pub use Rattle.roman_read.specs.Items.{each_item, pushing}
pub use Rattle.roman_read.specs.Json.{list_of}
pub use Rattle.roman_read.specs.Names.{place_of}
pub use Rattle.roman_read.specs.declared.rules.Kind.{Kind}
pub use Rattle.serde_json.proofs.Views.{Entry, items_len-items_view}
pub use Rattle.serde_json.specs.Data.{Data, Items, array, boolean, depth, item, items_depth, member, no_items, no_members, object}
pub use Rattle.serde_json.specs.Events.{items_len}
pub use Rattle.serde_json.specs.Find.{as_array, as_bool, as_object}
pub use Rattle.serde_json.specs.View.{items_view, members_view, view}
pub use Rattle.serde_json.specs.declared.value.Value.{Value}
pub use mir.Val.{bits}
pub use Rattle.roman_parts.specs.Cells.{HasMoves, HasTriples, PutsIntoCell, PutsIntoCells, ends, goes, leads}
unfoldable pub use Rattle.roman_parts.specs.Cells.{cell_has}
unfoldable pub use Rattle.roman_parts.specs.Choices.{choice_at, choice_between, choice_of, choice_with, first_below, single_of}
pub use Rattle.roman_parts.specs.Guards.{among_of, each_guard, no_guard, operator_of, sole_member, sole_of, state_in}
unfoldable pub use Rattle.roman_parts.specs.Guards.{guard_of, guards_of}
pub use Rattle.roman_parts.specs.Listed.{AreInRange, AreMoves, AreTriples, IsCountUpTo, guarded_beh, listed_beh, listed_env, move_of, triple_of}
pub use Rattle.roman_parts.specs.Lists.{finals_of}
unfoldable pub use Rattle.roman_parts.specs.Lists.{names_of, place_in, start_of, with_name_read}
pub use Rattle.roman_parts.specs.Named.{IsBehaviour, IsOver, IsTarget, NamedBeh, NamedEnv, NamedTarget}
pub use Rattle.roman_parts.specs.Parts.{name_of}
unfoldable pub use Rattle.roman_parts.specs.Parts.{behaviour_of, environment_of, target_of}
pub use Rattle.roman_parts.specs.Reading.{check, found, items_at, looked}
unfoldable pub use Rattle.roman_parts.specs.Reading.{counted_items}
pub use Rattle.roman_parts.specs.Pieces.{IsCut, pieces}
pub use Rattle.roman_parts.specs.Steps.{four_of, move_item, moves_of, three_of, triple_item, triples_of}
pub use Rattle.roman_parts.specs.Tables.{HasGuardedLists, HasStateLists, automaton_of, list_has}
pub use Rattle.roman_parts.specs.declared.cells.Cells.{Cells}
pub use Rattle.roman_parts.specs.declared.error.List.TheVariants.{Finals, Steps}
pub use Rattle.roman_parts.specs.declared.error.PartError.{PartError}
