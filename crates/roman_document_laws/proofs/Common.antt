pub use Rattle.std.proofs.Common.{Bool, Err, IfSome, IsFalse, IsTrue, List, None, Ok, Option, Result, Some, [], ap, append-nil, append_assoc, ap₂, arith, codes, cond, eqb-true, false, find, get_or, inl, inr, is_none, is_some, leb-true, length, map, nat_le, not, refl, slice_get, slice_index_or, subst, suc, sym, take, true, true≢false, zero, ℕ, ◌&&◌, ◌++◌, ◌+◌, ◌<◌, ◌==◌, ◌↔◌, ◌∙◌, ◌∷◌, ◌≡◌, ◌≢◌, ◌≤◌, ◌⊎◌}
pub use Rattle.std.proofs.lemmas.Bool.{and_from, and_parts, both_ways, cases_eq, cases_order, cond-false, cond-true, eq-eqb, le-leb, not-true, or_parts}
pub use Rattle.std.proofs.lemmas.List.{length-map, length_push, map_push}
pub use Rattle.std.proofs.lemmas.List.Quantifiers.{position-Some}
pub use Rattle.std.proofs.lemmas.Option.{get_or_from_slice_get, same_Some, slice_get-get_or, slice_get_within}
pub use Rattle.std.proofs.lemmas.Slice.Eq.{bytes_eq-Decides}
pub use Rattle.std.proofs.lemmas.Slice.Zip.{AllZip-long}
pub use Rattle.std.specs.List.{AllZip, filter, flat_map}
pub use Rattle.std.specs.Str.{bytes_eq}
pub use Rattle.roman_guard.proofs.CallerLemmas.{in_states_below, states_below_are}
pub use Rattle.roman_guard.specs.Meaning.{is_one_of, states_below}
pub use Rattle.roman_io.specs.Shelf.{Texts}
pub use Rattle.roman_laws.proofs.CallerLemmas.{listed_step, listed_triple, step_listed}
pub use Rattle.roman_laws.specs.Outcomes.{HasStep}
pub use Rattle.roman_library.specs.Documents.{behaviour_in, value_at, with_behaviour, with_target}
unfoldable pub use Rattle.roman_library.specs.Documents.{behaviour_place, catalogue_in, combined_of, environment_in, file_of, frozen_of, library_in, library_of, limit_in, limit_of, listed_in, named_target_of, new_behaviour_of, new_name_of, part_of, parts_in, rests_of, service_of, services_of, state_of, target_in, targets_in, version_of, with_service_read, with_listed}
pub use Rattle.roman_library.specs.Library.{AreServices, IsLibrary, IsService, PlainLibrary, behaviour_name, service_name}
pub use Rattle.roman_library.specs.Refusals.{located, refusal_of}
pub use Rattle.roman_library.specs.declared.library.Service.{Service}
pub use Rattle.roman_library.specs.declared.refusal.Part.{Part}
pub use Rattle.roman_library.specs.declared.refusal.Refusal.{Refusal}
pub use Rattle.roman_model.proofs.CallerLemmas.{any_false, any_true, by_test, contains_in, filter_in, find_not_found, from_append, from_below, from_flat_map, from_map, from_push, get_in, in_append_left, in_below, in_contains, in_map, in_push, listed_number, no_longer, none_from, number_listed, same_test, there_is, triple_in}
pub use Rattle.roman_model.specs.Explanation.{name_at}
pub use Rattle.roman_model.specs.Lists.{HasNoRepeats, IsIn, below}
pub use Rattle.roman_model.specs.Made.{guarded_step}
pub use Rattle.roman_model.specs.Normal.{normal_beh, normal_env}
pub use Rattle.roman_model.specs.System.{Beh, Env, IsBeh, IsDeterministic, IsEnv, Move, Triple, has, has_move, has_triple, is_final}
pub use Rattle.roman_model.specs.SystemArena.{env_next}
pub use Rattle.roman_model.specs.declared.limits.TheConstants.{MAX_ACTIONS, MAX_BEHAVIOURS, MAX_CELLS, MAX_SERVICES, MAX_STATES, MAX_STEPS}
pub use Rattle.roman_parts.proofs.CallerLemmas.{behaviour_known, check_is, env_read, environment_known, first_below-none, from_normal_move, from_normal_triple, has_move-normal, has_triple-normal, is_final-normal, none_absent, none_is, states_below-filter, target_known, there_some}
pub use Rattle.roman_parts.specs.Choices.{refuse_choice}
unfoldable pub use Rattle.roman_parts.specs.Choices.{choice_at, choice_between, choice_of, choice_with, single_of}
unfoldable pub use Rattle.roman_parts.specs.Guards.{among_of, guard_of, guarded_states, state_in}
pub use Rattle.roman_parts.specs.Lists.{name_in}
unfoldable pub use Rattle.roman_parts.specs.Lists.{finals_of, names_of, place_in, start_of, with_name_read}
pub use Rattle.roman_parts.specs.Named.{IsOver, NamedBeh, NamedEnv, NamedTarget}
unfoldable pub use Rattle.roman_parts.specs.Parts.{behaviour_of, environment_of, name_of, target_of}
pub use Rattle.roman_parts.specs.Reading.{check, found, looked}
unfoldable pub use Rattle.roman_parts.specs.Reading.{counted_items, items_at}
pub use Rattle.roman_parts.specs.Steps.{four_of, three_of}
unfoldable pub use Rattle.roman_parts.specs.Steps.{move_item, moves_of, triple_item, triples_of}
pub use Rattle.roman_parts.specs.declared.error.PartError.{PartError}
pub use Rattle.roman_parts.specs.declared.error.PartError.TheVariants.{Refused}
pub use Rattle.roman_read.proofs.CallerLemmas.{bind_ok, place_of-absent, same_ok}
pub use Rattle.roman_read.specs.Items.{◌>>=◌}
unfoldable pub use Rattle.roman_read.specs.Items.{each_item, pushing}
pub use Rattle.roman_read.specs.Json.{list_of, member_of, text_of}
pub use Rattle.roman_read.specs.Kinds.{kind_of}
pub use Rattle.roman_read.specs.Names.{is_name, place_of}
pub use Rattle.roman_read.specs.declared.rules.Kind.{Kind}
pub use Rattle.roman_read.specs.declared.rules.Kind.TheVariants.{Count}
pub use Rattle.roman_read.specs.declared.rules.Miss.{Miss}
pub use Rattle.serde_json.specs.Data.{Data, Items, item, no_items, number, string, unsigned}
pub use Rattle.serde_json.specs.Events.{items_len}
pub use Rattle.serde_json.specs.Find.{as_object}
pub use Rattle.serde_json.specs.View.{items_of}
pub use Rattle.roman_document_laws.specs.DocumentReads.{BreaksService, DocumentListsAreRead, ReadsBehaviours, ReadsServices, refused_list}
pub use Rattle.roman_document_laws.specs.DocumentWriter.{IsSayable, LibrariesAreSaid, catalogue_states, library_value, service_value}
pub use Rattle.roman_document_laws.specs.Listed.{AreItems, BreaksList, FaultIn, IsListAt, IsListOf, MissesList}
pub use Rattle.roman_document_laws.specs.Normals.{AreBefore, IsLess, IsMoveBefore, IsNormalBeh, IsNormalEnv, IsTripleBefore, NormalFormsAreNormal, NormalFormsAreUnique, Rises, SameBeh, SameEnv}
pub use Rattle.roman_document_laws.specs.PartReads.{AreNames, BreaksMove, BreaksName, BreaksPlace, BreaksTriple, IsMoveItem, IsNewName, IsPlace, IsTripleItem, ListsAreRead, ReadsList}
pub use Rattle.roman_document_laws.specs.PartWriter.{CanList, IsSayableBeh, IsSayableEnv, IsSayableTarget, PartsAreSaid, behaviour_value, environment_value, list_value, move_value, names_value, place_value, places_value, target_value, triple_value}
pub use Rattle.roman_multi.specs.Combining.{PlainCombined, combined_behaviour, combined_state_names, forbidding, has_repeats, request_names, requests_in, stands_before, target_name}
unfoldable pub use Rattle.roman_multi.specs.Combining.{combined_parts}
pub use Rattle.roman_library.proofs.CallerLemmas.{libraries_known, located_is, targets_combined}
pub use Rattle.roman_library.specs.Targets.{AcceptedNameTargets, NamesTargets, PlainTargets}
pub use Rattle.roman_multi.proofs.CallerLemmas.{are_allowed}
pub use Rattle.roman_multi.specs.declared.parts.Named.{Named}
pub use Rattle.roman_document_laws.specs.SeveralWriter.{AreSayable, SeveralAreSaid, named_target_value, several_value}
pub use Rattle.roman_document_laws.specs.Accepted.{AcceptedCanBeSaid, AcceptedNamesAreClear, AcceptedSeveralCanBeSaid, HasClearNames, PartsCanBeSaid}
